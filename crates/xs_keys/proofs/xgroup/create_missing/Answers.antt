use Rattle.xs_keys.proofs.GroupMaking.{makes_step, refused_step}
use Rattle.xs_keys.proofs.xgroup.create_missing.Goals as goal

pub returns-in-Ok : goal.returns-in-Ok
returns-in-Ok c = λ now. rw c.in-Ok.ensures.ok (makes_step c.args.keys.now now c.args.command.now c.if-not-command.false c.requires)

pub returns-in-Err : goal.returns-in-Err
returns-in-Err c = λ now. rw c.in-Err.ensures.err (refused_step c.args.keys.now now c.args.command.now _ c.if-not-command.false c.requires)
