-- Bytes that are being written to a tape.
use Rattle.std.specs.Prelude.{◌≡◌, ◌⊎◌, ℕ, ◌≤◌, Bool, true, false, List, [], ◌∷◌, ◌++◌, length, Option, Some, None}
use Rattle.std.specs.Prelude.{Result, Ok, Err}
use mathlib.Core.List.{IsPrefix}
use Rattle.xs_tape.specs.Tape.{TapeBytes, AllKept}

-- the content of a tape, if it is known, and the bytes that are pending: still to be written; and whether a call has
-- failed
pub record Writing : Type 0 where
  pub broken : Bool
  pub holds : Option TapeBytes
  pub pending : List ℕ

-- what was written and what is pending are this text; if a call has failed, what was written is a beginning of it
abbrev pub IsTextOf : Bool → List ℕ → List ℕ → List ℕ → Type 0
IsTextOf false written pending text = written ++ pending ≡ text
IsTextOf true written pending text = IsPrefix written text

-- after these closed files a tape has this text or, if a call has failed, a beginning of it; and at least `sure` of its
-- first bytes are kept
pub record IsOnTape
    (broken : Bool) (pending : List ℕ) (tape : TapeBytes) (closed : List (List ℕ)) (text : List ℕ) (sure : ℕ)
    : Type 0 where
  pub closed_is : tape.closed ≡ closed
  pub text_is : IsTextOf broken tape.written pending text
  pub kept_is : sure ≤ tape.kept
  pub within : tape.kept ≤ length tape.written

abbrev pub MayBeOnTape : Bool → List ℕ → Option TapeBytes → List (List ℕ) → List ℕ → ℕ → Type 0
MayBeOnTape broken pending None closed text sure = Unit {0}
MayBeOnTape broken pending (Some tape) closed text sure = IsOnTape broken pending tape closed text sure

-- so it is, if the content is known
abbrev pub Has : Writing → List (List ℕ) → List ℕ → ℕ → Type 0
Has writing closed text sure = MayBeOnTape writing.broken writing.pending writing.holds closed text sure

-- these bytes were put after the text; if a call has failed, perhaps only a part of them
pub record Puts (old new : Writing) (bytes : List ℕ) : Type 0 where
  pub puts : (closed : List (List ℕ)) (text : List ℕ) (sure : ℕ) → Has old closed text sure →
      Has new closed (text ++ bytes) sure

-- nothing was written since the last sync
abbrev pub IsSynced : Bool → Option TapeBytes → Type 0
IsSynced true holds = AllKept holds
IsSynced false holds = Unit {0}

-- at least this many bytes of the text are kept now: all, or, if the call failed, those that were before
abbrev pub Keeps : {E : Type 0} → Result (Unit {0}) E → Writing → List (List ℕ) → List ℕ → ℕ → Type 0
Keeps (Ok _) new closed text sure = Has new closed text (length text)
Keeps (Err _) new closed text sure = Has new closed text sure

-- the text, all of which was kept, is closed, and the next file is begun; if the call failed, this may have happened or
-- not
abbrev pub Closes : {E : Type 0} → Result (Unit {0}) E → Writing → List (List ℕ) → List ℕ → Type 0
Closes (Ok _) new closed text = Has new (closed ++ text ∷ []) [] 0
Closes (Err _) new closed text = Has new closed text (length text) ⊎ Has new (closed ++ text ∷ []) [] 0
