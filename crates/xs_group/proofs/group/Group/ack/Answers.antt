use Rattle.xs_group.proofs.Terms.{length, ap, arith, unless_acked}
use Rattle.xs_group.proofs.group.Group.ack.Goals as goal
use Rattle.xs_group.proofs.RemovedRows.{length-change, up_to-change}

pub overflow_sub-result : goal.overflow_sub-result
overflow_sub-result c =
    let kept = ap (λ held. length held.rows.entries) c.take_all.ensures in
    let fewer = length-change (unless_acked c.args.ids.now) c.self.inside.pending.rows in
    omega arith

pub invariant_of-self : goal.invariant_of-self
invariant_of-self c = rw c.take_all.ensures (record {
  up_to_cursor = up_to-change (unless_acked c.args.ids.now) c.self.inside.cursor c.self.inside.pending.rows c.self.invariant.up_to_cursor;
  names_counted = c.self.invariant.names_counted;
})

pub returns-clause-count : goal.returns-clause-count
returns-clause-count c =
    let kept = ap (λ held. length held.rows.entries) c.take_all.ensures in
    let fewer = length-change (unless_acked c.args.ids.now) c.self.inside.pending.rows in
    rw (← c.self.view_is) (omega arith)
