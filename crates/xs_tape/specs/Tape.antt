-- What the calls of a tape do to its content, if that is known.
use Rattle.std.specs.Prelude.{◌≡◌, ◌⊎◌, ℕ, List, [], ◌∷◌, ◌++◌, length, Option, Some, None, Result, Ok, Err}

-- the bytes of the closed files, in their order, all of them kept; the bytes that were written to the last file; and
-- the number of the first of these that a sync has kept
pub record TapeBytes : Type 0 where
  pub closed : List (List ℕ)
  pub written : List ℕ
  pub kept : ℕ

-- with these bytes appended
abbrev pub with_more : TapeBytes → List ℕ → TapeBytes
with_more tape bytes = record { closed = tape.closed; written = tape.written ++ bytes; kept = tape.kept }

-- with all that was written kept
abbrev pub with_all_kept : TapeBytes → TapeBytes
with_all_kept tape = record { closed = tape.closed; written = tape.written; kept = length tape.written }

-- with the last file closed, and an empty one after it
abbrev pub with_next : TapeBytes → TapeBytes
with_next tape = record { closed = tape.closed ++ tape.written ∷ []; written = []; kept = 0 }

-- these bytes were appended or, if the call failed, a part of them
abbrev pub Appends : {E : Type 0} → Result (Unit {0}) E → List ℕ → Option TapeBytes → Option TapeBytes → Type 0
Appends (Ok _) bytes (Some old) (Some new) = new ≡ with_more old bytes
Appends (Err _) bytes (Some old) (Some new) = (part rest : List ℕ) × (bytes ≡ part ++ rest) × (new ≡ with_more old part)
Appends result bytes None None = Unit {0}
Appends _ _ _ _ = ⊥

-- all that was written is kept or, if the call failed, what was kept before
abbrev pub Syncs : {E : Type 0} → Result (Unit {0}) E → Option TapeBytes → Option TapeBytes → Type 0
Syncs (Ok _) (Some old) (Some new) = new ≡ with_all_kept old
Syncs (Err _) (Some old) (Some new) = new ≡ old
Syncs result None None = Unit {0}
Syncs _ _ _ = ⊥

-- the last file is closed, and an empty one follows it; if the call failed, this may have happened or not
abbrev pub BeginsNext : {E : Type 0} → Result (Unit {0}) E → Option TapeBytes → Option TapeBytes → Type 0
BeginsNext (Ok _) (Some old) (Some new) = new ≡ with_next old
BeginsNext (Err _) (Some old) (Some new) = (new ≡ old) ⊎ (new ≡ with_next old)
BeginsNext result None None = Unit {0}
BeginsNext _ _ _ = ⊥

-- all that was written is kept, if the content is known
abbrev pub AllKept : Option TapeBytes → Type 0
AllKept None = Unit {0}
AllKept (Some tape) = tape.kept ≡ length tape.written
