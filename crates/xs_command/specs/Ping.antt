-- PING and QUIT.
use Rattle.std.specs.Prelude.{[], ◌∷◌, Some, None, Ok}
use Rattle.xs_resp.specs.declared.fault.Fault.TheVariants.{Syntax}
use Rattle.xs_command.specs.declared.command.Command.{Command}
use Rattle.xs_command.specs.declared.command.Command.TheVariants as command
use Rattle.xs_command.specs.Words.{Reading}
use Rattle.xs_command.specs.Syntax.{only}

-- PING [message]
unfoldable pub ping : Reading Command
ping [] = Ok (command.Ping None)
ping (message ∷ words) = only (command.Ping (Some message)) Syntax words

-- QUIT; further words are ignored
unfoldable pub quit : Reading Command
quit words = Ok command.Quit
