-- XTRIM.
use Rattle.std.specs.Prelude.{ℕ, List, Option, Some, None, Err}
use Rattle.xs_stream.specs.declared.trim.Trim.{Trim}
use Rattle.xs_resp.specs.declared.fault.Fault.TheVariants.{Syntax}
use Rattle.xs_command.specs.declared.command.Command.{Command}
use Rattle.xs_command.specs.declared.command.Command.TheVariants as command
use Rattle.xs_command.specs.Words.{Reading, ◌>>=◌, word}
use Rattle.xs_command.specs.Options.{many}
use Rattle.xs_command.specs.Syntax.{only}
use Rattle.xs_command.specs.Trim.{trim_option}

-- the trim, which has to be there
abbrev pub trim_to : List ℕ → Option Trim → Reading Command
trim_to key None words = Err Syntax
trim_to key (Some trim) words = only (command.TrimTo key trim) Syntax words

-- XTRIM key { trim }
unfoldable pub xtrim : Reading Command
xtrim = do
  key ← word
  trim ← many trim_option None
  trim_to key trim
