use Rattle.xs_group.proofs.Terms.{is_same_id-symm, arith}
use Rattle.xs_group.proofs.consumer_index.remove_rows.Goals as goal

pub loop-id-preserved : goal.loop-id-preserved
loop-id-preserved c = λ x.
    grind (arith, c.remove.ensures.updates.0 x, is_same_id-symm c.in-Some.id.now x, c.loop-id.invariant x)

pub loop-id-preserved-in-Some : goal.loop-id-preserved-in-Some
loop-id-preserved-in-Some c = λ x.
    grind (arith, c.remove.ensures.updates.0 x, is_same_id-symm c.in-Some.id.now x, c.loop-id.invariant x)
