use Rattle.xs_group.proofs.Terms.{first_row, arith}
use Rattle.xs_group.proofs.NextRows.{put-touched}
use Rattle.xs_group.proofs.pending.Pending.put.Goals as goal

pub returns-clause-ok : goal.returns-clause-ok
returns-clause-ok c =
    grind (arith, put-touched c.args.self.now.rows c.args.id c.args.touch (first_row c.args.name.now c.args.touch.time))
