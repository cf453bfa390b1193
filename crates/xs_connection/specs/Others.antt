-- SELECT, ECHO, COMMAND and CONFIG. (Redis, their pages.)
use Rattle.std.specs.Prelude.{Bool, ◌==◌, false, [], ◌∷◌, codes, Ok, Err, if◌then◌else◌}
use Rattle.xs_resp.specs.declared.fault.Fault.TheVariants.{Arity, UnknownCommand}
use Rattle.xs_command.specs.declared.integer.Integer.{Integer}
use Rattle.xs_command.specs.declared.integer.Integer.TheVariants.{Negative, Natural}
use Rattle.xs_command.specs.Words.{Reading, ◌>>=◌, is_word}
use Rattle.xs_connection.specs.declared.command.ConnectionCommand.{ConnectionCommand}
use Rattle.xs_connection.specs.declared.command.ConnectionCommand.TheVariants.{Accept, OtherDatabase, Echo, ListNothing}
use Rattle.xs_connection.specs.Reading.{operand, number, ending}

abbrev pub is_zero : Integer → Bool
is_zero Negative = false
is_zero (Natural n) = n == 0

-- SELECT 0; there is no other database
unfoldable pub select : Reading ConnectionCommand
select = do
  n ← number
  ending Arity (if is_zero n then Accept else OtherDatabase)

-- ECHO text
unfoldable pub echo : Reading ConnectionCommand
echo = do
  text ← operand
  ending Arity (Echo text)

-- COMMAND, or COMMAND DOCS ..; nothing is listed
unfoldable pub list_commands : Reading ConnectionCommand
list_commands [] = Ok ListNothing
list_commands (w ∷ words) = if is_word (codes "docs") w then Ok ListNothing else Err UnknownCommand

-- after GET: one pattern or more
unfoldable pub config_behind : Reading ConnectionCommand
config_behind [] = Err Arity
config_behind (pattern ∷ words) = Ok ListNothing

-- CONFIG GET pattern ..; nothing is listed
unfoldable pub config : Reading ConnectionCommand
config = do
  w ← operand
  if is_word (codes "get") w then config_behind else (λ words. Err UnknownCommand)
