use Rattle.std.proofs.Common.{Some}
use Rattle.xs_script.proofs.serving.answer.Goals as goal

pub returns-in-Ok : goal.returns-in-Ok
returns-in-Ok c = (Some c.in-Ok.command, (c.in-Ok.ensures.exact, c.apply.ensures))
