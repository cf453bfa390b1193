-- XACK.
use Rattle.xs_resp.specs.declared.fault.Fault.TheVariants.{BadId}
use Rattle.xs_command.specs.declared.command.Command.{Command}
use Rattle.xs_command.specs.declared.command.Command.TheVariants as command
use Rattle.xs_command.specs.Words.{Reading, ◌>>=◌, word}
use Rattle.xs_command.specs.Syntax.{only, ids}

-- XACK key group id [id ..]
unfoldable pub xack : Reading Command
xack = do
  key ← word
  group ← word
  ids ← ids
  only (command.Ack key group ids) BadId
