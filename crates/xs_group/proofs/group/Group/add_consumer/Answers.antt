use Rattle.xs_group.proofs.Terms.{false, ◌+◌, length, sym, ap, ◌∙◌, GroupState}
use Rattle.xs_group.specs.GroupRoom.{bytes_of_names}
use Rattle.xs_group.proofs.CountedNames.{counted-made}
use Rattle.xs_group.proofs.group.Group.add_consumer.Goals as goal

pub invariant_of-self-2 : goal.invariant_of-self-2
invariant_of-self-2 c = rw c.in_ok-made.ensures.ok (record {
  up_to_cursor = c.self.invariant.up_to_cursor;
  names_counted = counted-made c.self.inside.pending.consumers c.args.consumer.now c.args.now false c.in_ok-made.made c.self.inside.name_bytes c.in_ok-name_bytes.name_bytes c.either-self-inside.result
      c.self.invariant.names_counted (c.in_ok-name_bytes.ensures ∙ ap (λ (g : GroupState). bytes_of_names g.consumers + length c.args.consumer.now) (sym c.self.view_is))
      c.in_ok-made.ensures.made c.either-self-inside.ensures;
})
