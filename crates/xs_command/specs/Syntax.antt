-- The parts of the syntax that several commands share, besides words and options.
use Rattle.std.specs.Prelude.{ℕ, List, [], ◌∷◌, Option, Some, None, Ok, Err}
use Rattle.xs_stream.specs.declared.id.Id.{Id}
use Rattle.xs_stream.specs.IdText.{parse_id}
use Rattle.xs_resp.specs.declared.fault.Fault.{Fault}
use Rattle.xs_command.specs.Words.{Reading, Part, ◌>>=◌, id_of_word}

-- the value if no word is left, and else the fault
unfoldable pub only : {A : Type 0} → A → Fault → Reading A
only x fault [] = Ok x
only x fault (w ∷ words) = Err fault

-- an id before those that follow, or a word that isn't one
abbrev pub id_before : Option Id → List (List ℕ) → List Id × List (List ℕ) → List Id × List (List ℕ)
id_before None words more = ([], words)
id_before (Some first) words more = (first ∷ more.0, more.1)

-- the ids at the front of the words, and the words after them; a missing sequence is 0
unfoldable pub leading_ids : List (List ℕ) → List Id × List (List ℕ)
leading_ids [] = ([], [])
leading_ids (w ∷ words) = id_before (parse_id w 0) (w ∷ words) (leading_ids words)

-- one id or more, as long as words are ids
unfoldable pub ids : Part (List Id)
ids = do
  first ← id_of_word
  λ words. Ok (first ∷ (leading_ids words).0, (leading_ids words).1)
