-- How the words of a command of a connection are read, from left to right.
use Rattle.std.specs.Prelude.{List, ℕ, [], ◌∷◌, Ok, Err}
use Rattle.xs_resp.specs.declared.fault.Fault.{Fault}
use Rattle.xs_resp.specs.declared.fault.Fault.TheVariants.{Arity, NotInteger}
use Rattle.xs_command.specs.declared.integer.Integer.{Integer}
use Rattle.xs_command.specs.Integer.{integer_of}
use Rattle.xs_command.specs.Words.{Reading, Part, ◌>>=◌, or_fault}

-- the next word, which has to be there
unfoldable pub operand : Part (List ℕ)
operand [] = Err Arity
operand (w ∷ words) = Ok (w, words)

-- the next word, an integer
unfoldable pub number : Part Integer
number = do
  w ← operand
  or_fault (integer_of w) NotInteger

-- this value, if no word is left
unfoldable pub ending : {A : Type 0} → Fault → A → Reading A
ending fault x [] = Ok x
ending fault x (w ∷ words) = Err fault
