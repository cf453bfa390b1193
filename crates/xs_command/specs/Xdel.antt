-- XDEL.
use Rattle.xs_resp.specs.declared.fault.Fault.TheVariants.{BadId}
use Rattle.xs_command.specs.declared.command.Command.{Command}
use Rattle.xs_command.specs.declared.command.Command.TheVariants as command
use Rattle.xs_command.specs.Words.{Reading, ◌>>=◌, word}
use Rattle.xs_command.specs.Syntax.{only, ids}

-- XDEL key id [id ..]
unfoldable pub xdel : Reading Command
xdel = do
  key ← word
  ids ← ids
  only (command.Delete key ids) BadId
