-- TYPE.
use Rattle.xs_resp.specs.declared.fault.Fault.TheVariants.{Syntax}
use Rattle.xs_command.specs.declared.command.Command.{Command}
use Rattle.xs_command.specs.declared.command.Command.TheVariants as command
use Rattle.xs_command.specs.declared.command.Inspection.TheVariants.{KeyType}
use Rattle.xs_command.specs.Words.{Reading, ◌>>=◌, word}
use Rattle.xs_command.specs.Syntax.{only}

-- TYPE key
unfoldable pub key_type : Reading Command
key_type = do
  key ← word
  only (command.Inspect (KeyType key)) Syntax
