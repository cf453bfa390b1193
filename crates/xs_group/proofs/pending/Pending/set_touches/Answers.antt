use Rattle.xs_group.proofs.Terms.{take, take_more, arith}
use Rattle.xs_group.proofs.pending.Pending.set_touches.Goals as goal
use Rattle.xs_group.proofs.Touching.{set_rows-more}

pub loop-row-preserved : goal.loop-row-preserved
loop-row-preserved c =
    let row = c.row-item.result in
    let next = take_more c.args.rows.now c.loop-row.row-index row c.loop-row-test.true in
    grind (arith, set_rows-more c.args.now.now (take c.loop-row.row-index c.args.rows.now) row c.args.self.now.rows)
