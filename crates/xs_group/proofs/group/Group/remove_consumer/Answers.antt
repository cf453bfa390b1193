use Rattle.xs_group.proofs.Terms.{unless_owned, cond, ap, ◌∙◌}
use Rattle.xs_group.proofs.group.Group.remove_consumer.Goals as goal
use Rattle.xs_group.proofs.CountedNames.{counted-gone, counted-within}
use Rattle.xs_group.proofs.RemovedRows.{up_to-change}

pub overflow_sub-self : goal.overflow_sub-self
overflow_sub-self c = counted-within c.self.inside.pending.consumers c.args.consumer.now c.has_consumer-there.result c.self.inside.name_bytes c.either.result c.self.invariant.names_counted c.has_consumer-there.ensures
    (c.either.ensures ∙ ap (λ k. cond c.has_consumer-there.result k 0) c.len.ensures)

pub invariant_of-self : goal.invariant_of-self
invariant_of-self c = rw c.remove_consumer-count.ensures.rows (record {
  up_to_cursor = up_to-change (unless_owned c.args.consumer.now) c.self.inside.cursor c.self.inside.pending.rows c.self.invariant.up_to_cursor;
  names_counted = counted-gone c.self.inside.pending.consumers c.args.consumer.now c.has_consumer-there.result c.self.inside.name_bytes c.either.result c.self.invariant.names_counted c.has_consumer-there.ensures
      (c.either.ensures ∙ ap (λ k. cond c.has_consumer-there.result k 0) c.len.ensures);
})
