use Rattle.xs_group.proofs.Terms.{sym, ap, ◌∙◌, length, rows_of, consumers_of, ids_of_owner, arith}
use Rattle.xs_group.proofs.pending.Pending.remove_consumer.Goals as goal
use Rattle.xs_group.proofs.Agreeing.{held-by}
use Rattle.xs_group.proofs.RemovedRows.{rows-without, agreed-without, consumers-without, ids-without, left-none, left-some}
use Rattle.xs_group.proofs.OwnIds.{owned-none, owned-some}

pub returns-in_default-clause-rows : goal.returns-in_default-clause-rows
returns-in_default-clause-rows c =
    let a = c.self.inside.owners.entries in
    let rows = c.self.inside.rows.entries in
    rw (← c.self.view_is) (grind (
      arith,
      consumers-without a c.remove.new.self.entries c.args.name.now c.remove.ensures.updates.0,
      rows-without rows rows a a c.args.name.now c.self.invariant
          (left-none rows a c.args.name.now (ap ids_of_owner (sym c.in_default.ensures.value))),
    ))

pub returns-in_default-clause-count : goal.returns-in_default-clause-count
returns-in_default-clause-count c = rw (← c.self.view_is)
    (ap length (owned-none c.self.inside.rows.entries c.self.inside.owners.entries c.args.name.now c.self.invariant
    (ap ids_of_owner c.in_default.ensures.value)))

pub invariant_of-self-2 : goal.invariant_of-self-2
invariant_of-self-2 c =
    let a = c.self.inside.owners.entries in
    let rows = c.self.inside.rows.entries in
    agreed-without rows c.remove_rows.new.rows.entries a c.remove.new.self.entries c.args.name.now c.self.invariant
    (left-some rows c.remove_rows.new.rows.entries a c.args.name.now c.in-Some.owner.ids (ap ids_of_owner (sym c.in-Some.ensures.value)) c.remove_rows.ensures) (ids-without a c.remove.new.self.entries c.args.name.now c.remove.ensures.updates.0)

pub returns-clause-rows : goal.returns-clause-rows
returns-clause-rows c =
    let a = c.self.inside.owners.entries in
    let rows = c.self.inside.rows.entries in
    rw (← c.self.view_is) (held-by (consumers_of c.remove.new.self.entries) _ (rows_of c.remove_rows.new.rows.entries) _
    (consumers-without a c.remove.new.self.entries c.args.name.now c.remove.ensures.updates.0)
    (rows-without rows c.remove_rows.new.rows.entries a a c.args.name.now c.self.invariant
    (left-some rows c.remove_rows.new.rows.entries a c.args.name.now c.in-Some.owner.ids (ap ids_of_owner (sym c.in-Some.ensures.value)) c.remove_rows.ensures)))

pub returns-clause-count : goal.returns-clause-count
returns-clause-count c = rw (← c.self.view_is) (c.len-count.ensures.len
    ∙ ap length (owned-some c.self.inside.rows.entries c.self.inside.owners.entries c.args.name.now c.in-Some.owner.ids
    c.self.invariant (ap ids_of_owner c.in-Some.ensures.value) c.len-count.ensures.ordered))
