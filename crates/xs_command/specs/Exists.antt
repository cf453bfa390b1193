-- EXISTS.
use Rattle.std.specs.Prelude.{length, nat_lt, Ok, Err, if◌then◌else◌}
use Rattle.xs_resp.specs.declared.fault.Fault.TheVariants.{Syntax}
use Rattle.xs_command.specs.declared.command.Command.{Command}
use Rattle.xs_command.specs.declared.command.Command.TheVariants as command
use Rattle.xs_command.specs.declared.command.Inspection.TheVariants.{Existence}
use Rattle.xs_command.specs.Words.{Reading}

-- EXISTS key [key ..]
unfoldable pub exists : Reading Command
exists keys = if nat_lt 0 (length keys) then Ok (command.Inspect (Existence keys)) else Err Syntax
