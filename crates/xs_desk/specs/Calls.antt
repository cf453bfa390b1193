-- Calls: commands, and the words that spell them.
use Rattle.std.specs.Prelude.{◌≡◌, ◌≤◌, List, ℕ, length, map, Option, Some, None, Ok}
use Rattle.xs_resp.specs.declared.header.Part.TheVariants.{Size}
use Rattle.xs_resp.specs.HeaderPart.{limit}
use Rattle.xs_command.specs.declared.command.Command.{Command}
use Rattle.xs_command.specs.Read.{command_of_words}
use Rattle.xs_command.specs.WellFormed.{IsWellFormed}
use Rattle.xs_tape.specs.Escape.{escaped}
use Rattle.xs_tape.specs.Records.{CanBeSpelled, record_words}
use Rattle.xs_desk.specs.declared.answer.Call.{Call}

-- the commands of calls
abbrev pub asked_by : List Call → List Command
asked_by calls = map (λ call. call.command) calls

-- a log can have a record of these words, after any short word
abbrev pub CanBeRecord : List (List ℕ) → Type 0
CanBeRecord words =
    (first : List ℕ) → length (escaped first) ≤ limit Size → CanBeSpelled (record_words first words)

-- these words spell the command, and a log can have a record of them
pub record AreWordsOf (words : List (List ℕ)) (command : Command) : Type 0 where
  pub say : command_of_words words ≡ Ok command
  pub short : CanBeRecord words

abbrev pub HasWords : Option (List (List ℕ)) → Command → Type 0
HasWords None command = Unit {0}
HasWords (Some words) command = AreWordsOf words command

-- the command is well formed, and so are its words, if there are any
pub record IsFormed (call : Call) : Type 0 where
  pub command : IsWellFormed call.command
  pub words : HasWords call.words call.command
