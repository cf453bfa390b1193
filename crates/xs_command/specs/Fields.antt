-- The fields of XADD.
use Rattle.std.specs.Prelude.{ℕ, ◌%◌, ◌&&◌, ◌==◌, List, [], ◌∷◌, length, nat_lt, Ok, Err, if◌then◌else◌}
use Rattle.xs_stream.specs.declared.field.Field.{Field}
use Rattle.xs_resp.specs.declared.fault.Fault.TheVariants.{Arity}
use Rattle.xs_command.specs.Words.{Reading, Part, ◌>>=◌, value, word}

-- a name and its value
unfoldable pub field : Part Field
field = do
  name ← word
  text ← word
  value (record { name = name; value = text })

-- the words as names and values, one after the other
unfoldable pub pairs : List (List ℕ) → List Field
pairs [] = []
pairs (name ∷ []) = []
pairs (name ∷ text ∷ words) = record { name = name; value = text } ∷ pairs words

-- all the words, one pair or more; any other number of words is the fault Arity
unfoldable pub fields : Reading (List Field)
fields words = if nat_lt 0 (length words) && length words % 2 == 0 then Ok (pairs words) else Err Arity
