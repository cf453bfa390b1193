use Rattle.xs_group.proofs.Terms.{◌≡◌, sym, ap, ◌∙◌, not, is_some, owner_at, consumers_of, rows_of, arith}
use Rattle.xs_group.proofs.pending.Pending.add_consumer.Goals as goal
use Rattle.xs_group.proofs.Views.{has_name-consumers_of}
use Rattle.xs_group.proofs.Agreeing.{agreed-joined, consumers-joined, held-again}
use Rattle.xs_group.proofs.NewRows.{unowned-rows}
use Rattle.xs_group.proofs.RemovedRows.{named-agreed}

pub returns-then-contains_key-clause-made : goal.returns-then-contains_key-clause-made
returns-then-contains_key-clause-made c =
    rw (← c.self.view_is) (grind (arith, has_name-consumers_of c.self.inside.owners.entries c.args.name.now))

pub returns-then-contains_key-clause-ok : goal.returns-then-contains_key-clause-ok
returns-then-contains_key-clause-ok c =
    held-again c.args.self.now c.args.name.now c.args.now (rw (← c.self.view_is) (has_name-consumers_of c.self.inside.owners.entries c.args.name.now ∙ sym c.if-contains_key.ensures))

text_is : (c : goal.In_ok-insert) → c.in_ok-text.text ≡ c.args.name.now
text_is c = c.in_ok-text.ensures ∙ c.as_slice.ensures

pub invariant_of-self-2 : goal.invariant_of-self-2
invariant_of-self-2 c = agreed-joined c.self.inside.rows.entries c.self.inside.owners c.insert.new.self c.in_ok-text.text (record { seen = c.args.now; ids = c.new.result }) c.self.invariant
    (ap (λ k. is_some (owner_at c.self.inside.owners.entries k)) (text_is c) ∙ sym c.if-contains_key.ensures) c.new.ensures c.in_ok-insert.ensures.updates

pub returns-clause-made : goal.returns-clause-made
returns-clause-made c = rw (← c.self.view_is) (ap not (c.if-contains_key.ensures ∙ sym (has_name-consumers_of c.self.inside.owners.entries c.args.name.now)))

pub returns-clause-ok : goal.returns-clause-ok
returns-clause-ok c = rw (← c.self.view_is) (grind (
  arith,
  consumers-joined c.self.inside.owners c.insert.new.self c.in_ok-text.text (record { seen = c.args.now; ids = c.new.result }) (ap (λ k. is_some (owner_at c.self.inside.owners.entries k)) (text_is c) ∙ sym c.if-contains_key.ensures) c.in_ok-insert.ensures.updates,
  text_is c,
))

pub returns-clause-unowned : goal.returns-clause-unowned
returns-clause-unowned c = rw (← c.self.view_is)
    (λ made. unowned-rows (consumers_of c.self.inside.owners.entries) (rows_of c.self.inside.rows.entries) c.args.name.now
    (named-agreed c.self.inside.rows.entries c.self.inside.owners.entries c.self.invariant)
    (has_name-consumers_of c.self.inside.owners.entries c.args.name.now ∙ sym c.if-contains_key.ensures))

pub returns-then-contains_key-clause-named : goal.returns-then-contains_key-clause-named
returns-then-contains_key-clause-named c = rw (← c.self.view_is) (named-agreed c.self.inside.rows.entries c.self.inside.owners.entries c.self.invariant)

pub returns-clause-named : goal.returns-clause-named
returns-clause-named c = rw (← c.self.view_is) (named-agreed c.self.inside.rows.entries c.self.inside.owners.entries c.self.invariant)
