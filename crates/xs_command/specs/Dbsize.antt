-- DBSIZE.
use Rattle.xs_resp.specs.declared.fault.Fault.TheVariants.{Syntax}
use Rattle.xs_command.specs.declared.command.Command.{Command}
use Rattle.xs_command.specs.declared.command.Command.TheVariants as command
use Rattle.xs_command.specs.declared.command.Inspection.TheVariants.{KeyCount}
use Rattle.xs_command.specs.Words.{Reading}
use Rattle.xs_command.specs.Syntax.{only}

-- DBSIZE
unfoldable pub dbsize : Reading Command
dbsize = only (command.Inspect KeyCount) Syntax
