-- XLEN.
use Rattle.xs_resp.specs.declared.fault.Fault.TheVariants.{Syntax}
use Rattle.xs_command.specs.declared.command.Command.{Command}
use Rattle.xs_command.specs.declared.command.Command.TheVariants as command
use Rattle.xs_command.specs.Words.{Reading, ◌>>=◌, word}
use Rattle.xs_command.specs.Syntax.{only}

-- XLEN key
unfoldable pub xlen : Reading Command
xlen = do
  key ← word
  only (command.Len key) Syntax
