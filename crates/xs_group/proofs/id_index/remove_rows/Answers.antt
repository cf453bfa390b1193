use Rattle.xs_group.proofs.Terms.{get_or, take, take_more, is_same_id-symm, arith}
use Rattle.xs_group.proofs.id_index.remove_rows.Goals as goal
use Rattle.xs_group.proofs.ChosenIds.{has-more}

pub loop-id-preserved : goal.loop-id-preserved
loop-id-preserved c =
    let next = take_more c.args.ids.now c.loop-id.id-index (record { ms = 0; seq = 0 }) c.loop-id-test.true in
    let id = get_or c.args.ids.now c.loop-id.id-index (record { ms = 0; seq = 0 }) in
    λ x. grind (
      arith,
      c.remove.ensures.updates.0 x,
      is_same_id-symm id x,
      c.loop-id.invariant x,
      has-more (take c.loop-id.id-index c.args.ids.now) id x,
    )
