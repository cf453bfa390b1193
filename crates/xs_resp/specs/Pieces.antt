-- The requests of bytes that come in pieces.
use Rattle.std.specs.Prelude.{◌≡◌, ℕ, List, [], ◌∷◌, ◌++◌, drop, Some, None, Ok, Err}
use Rattle.xs_resp.specs.Outcome.{Outcome}
use Rattle.xs_resp.specs.Reading.{Found, request}
use Rattle.xs_resp.specs.HeldBytes.{Held, with_piece}

-- no request is complete: the bytes are held, or their fault
abbrev pub Rests : Outcome Found → List ℕ → Held → Type 0
Rests (Ok (Some found)) bytes held = ⊥
Rests (Ok None) bytes held = held ≡ Ok bytes
Rests (Err wrong) bytes held = held ≡ Err wrong

-- these requests are taken from the bytes, one after another, until none is complete
abbrev pub Reads : List ℕ → List (List (List ℕ)) → Held → Type 0
Reads bytes [] held = Rests (request bytes) bytes held
Reads bytes (words ∷ others) held =
    (end : ℕ) × ((request bytes ≡ Ok (Some (record { words = words; end = end }))) × Reads (drop end bytes) others held)

-- the same of what a reader holds: none is taken from a failed one
abbrev pub ReadsHeld : Held → List (List (List ℕ)) → Held → Type 0
ReadsHeld (Ok bytes) requests held = Reads bytes requests held
ReadsHeld (Err wrong) requests held = (requests ≡ []) × (held ≡ Err wrong)

-- the requests that are taken after the first piece, and those after the others
pub record ReadsOn (old : Held) (requests : List (List (List ℕ))) (rest : List (List (List ℕ)) → Held → Type 0) :
    Type 0 where
  pub first : List (List (List ℕ))
  pub others : List (List (List ℕ))
  pub between : Held
  pub all : requests ≡ first ++ others
  pub reads : ReadsHeld old first between
  pub further : rest others between

-- these requests are taken from a reader that is fed these pieces
abbrev pub ReadsPieces : Held → List (List ℕ) → List (List (List ℕ)) → Held → Type 0
ReadsPieces old [] requests held = (requests ≡ []) × (held ≡ old)
ReadsPieces old (piece ∷ pieces) requests held =
    ReadsOn (with_piece old piece) requests (λ others between. ReadsPieces between pieces others held)
