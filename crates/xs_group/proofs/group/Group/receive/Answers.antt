use Rattle.xs_group.proofs.Terms.{◌≡◌, arith, Bool, cond, last_of, with_rows, false, is_any, with_name, sym, ap, ◌∙◌, ◌+◌, length, GroupState, subst, AllAbove, first_row}
use Rattle.xs_group.proofs.group.Group.receive.Goals as goal
use Rattle.xs_group.specs.GroupRoom.{bytes_of_names}
use Rattle.xs_group.proofs.CountedNames.{counted-made}
use Rattle.xs_group.proofs.NewRows.{given-any, given-then, name-there}
use Rattle.xs_group.proofs.Ordered.{is-consistent}
use Rattle.xs_group.proofs.Cursors.{free-above, up_to-later, up_to-put}

-- without rows, giving the consumer something still counts
given : (c : goal.After-self-1) → c.give.new.self ≡ record { consumers = with_name c.self.inside.pending.consumers c.args.consumer.now c.args.now (is_any c.args.ids.now); rows = c.self.inside.pending.rows }
given c = grind (
  arith,
  given-any c.args.ids.now c.is_empty.result c.is_empty.ensures,
  given-then c.self.inside.pending.consumers c.args.consumer.now c.args.now (is_any c.args.ids.now),
)

pub give-requires : goal.give-requires
give-requires c = grind (arith, name-there c.self.inside.pending.consumers c.args.consumer.now c.args.now false)

pub invariant_of-self-then-noack : goal.invariant_of-self-then-noack
invariant_of-self-then-noack c =
    let above = subst (λ g. AllAbove g.cursor c.args.ids.now) (sym c.self.view_is) c.requires.above in
    rw (given c, c.last_id-last.ensures) (record {
      up_to_cursor = up_to-later c.self.inside.cursor c.args.ids.now c.self.inside.pending.rows c.self.invariant.up_to_cursor above c.requires.ascends;
      names_counted = counted-made c.self.inside.pending.consumers c.args.consumer.now c.args.now (is_any c.args.ids.now) c.in_ok-made.made c.self.inside.name_bytes c.in_ok-name_bytes.name_bytes c.either-self-inside.result
          c.self.invariant.names_counted (c.in_ok-name_bytes.ensures ∙ ap (λ (g : GroupState). bytes_of_names g.consumers + length c.args.consumer.now) (sym c.self.view_is))
          c.in_ok-made.ensures.made c.either-self-inside.ensures;
    })

pub deliver-requires : goal.deliver-requires
deliver-requires c =
    let above = subst (λ g. AllAbove g.cursor c.args.ids.now) (sym c.self.view_is) c.requires.above in
    free-above c.self.inside.cursor c.self.inside.pending.rows c.args.ids.now c.self.invariant.up_to_cursor above

pub invariant_of-self-2 : goal.invariant_of-self-2
invariant_of-self-2 c =
    let above = subst (λ g. AllAbove g.cursor c.args.ids.now) (sym c.self.view_is) c.requires.above in
    rw (c.in_ok-made-2.ensures.ok, c.last_id-last.ensures) (record {
      up_to_cursor = up_to-put c.self.inside.cursor c.args.ids.now (first_row c.args.consumer.now c.args.now) c.self.inside.pending.rows c.self.invariant.up_to_cursor above c.requires.ascends;
      names_counted = counted-made c.self.inside.pending.consumers c.args.consumer.now c.args.now (is_any c.args.ids.now) c.in_ok-made-2.made c.self.inside.name_bytes c.in_ok-name_bytes.name_bytes c.either-self-inside-2.result
          c.self.invariant.names_counted (c.in_ok-name_bytes.ensures ∙ ap (λ (g : GroupState). bytes_of_names g.consumers + length c.args.consumer.now) (sym c.self.view_is))
          c.in_ok-made-2.ensures.made c.either-self-inside-2.ensures;
    })

pub returns-then-noack-clause-consistent : goal.returns-then-noack-clause-consistent
returns-then-noack-clause-consistent c = rw (← c.self.view_is) (is-consistent c.self.inside.cursor c.self.inside.pending c.self.invariant.up_to_cursor c.in_ok-made.ensures.named)

pub returns-clause-consistent : goal.returns-clause-consistent
returns-clause-consistent c = rw (← c.self.view_is) (is-consistent c.self.inside.cursor c.self.inside.pending c.self.invariant.up_to_cursor c.in_ok-made-2.ensures.named)

abbrev received : (c : goal.After-self-1) → Bool → GroupState
received c noack = record {
  cursor = last_of c.self.inside.cursor c.args.ids.now;
  consumers = with_name c.self.inside.pending.consumers c.args.consumer.now c.args.now (is_any c.args.ids.now);
  rows = cond noack c.self.inside.pending.rows (with_rows c.args.ids.now (first_row c.args.consumer.now c.args.now) c.self.inside.pending.rows);
}

pub returns-then-noack-clause-ok : goal.returns-then-noack-clause-ok
returns-then-noack-clause-ok c = rw (← c.self.view_is) ((λ i. record { cursor = c.last_id-last.ensures i; consumers = (given c i).consumers; rows = (given c i).rows })
    ∙ ap (received c) (sym c.if-noack.true))
