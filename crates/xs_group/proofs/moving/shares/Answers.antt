use Rattle.xs_group.proofs.Terms.{get_or, take, take_more, arith}
use Rattle.xs_group.proofs.moving.shares.Goals as goal
use Rattle.xs_group.proofs.MovedRows.{names-more}

pub loop-id-preserved : goal.loop-id-preserved
loop-id-preserved c =
    let next = take_more c.args.ids.now c.loop-id._id-index (record { ms = 0; seq = 0 }) c.loop-id-test.true in
    let id = get_or c.args.ids.now c.loop-id._id-index (record { ms = 0; seq = 0 }) in
    grind (arith, names-more c.args.name.now (take c.loop-id._id-index c.args.ids.now) id)
