use Rattle.xs_group.proofs.Terms.{sym, consumers_of, arith}
use Rattle.xs_group.proofs.pending.Pending.take.Goals as goal
use Rattle.xs_group.proofs.Views.{consumers-same, rows-remove}
use Rattle.xs_group.proofs.Agreeing.{agreed-taken, held-by}

pub returns-in_default : goal.returns-in_default
returns-in_default c = rw (← c.self.view_is) (held-by (consumers_of c.self.inside.owners.entries) (consumers_of c.self.inside.owners.entries) _ _
    (λ i. consumers_of c.self.inside.owners.entries) (rows-remove c.self.inside.rows c.remove.new.self c.args.id c.remove.ensures.updates))

pub invariant_of-self : goal.invariant_of-self
invariant_of-self c = agreed-taken c.self.inside.rows c.remove.new.self c.self.inside.owners.entries c.remove_id.new.owners.entries c.args.id c.in-Some.entry c.self.invariant (sym c.in-Some.ensures.value)
    (λ q x. grind (arith, c.remove_id.ensures.ids q x)) c.remove.ensures.updates

pub returns-in-Some : goal.returns-in-Some
returns-in-Some c = rw (← c.self.view_is) (held-by (consumers_of c.remove_id.new.owners.entries) (consumers_of c.self.inside.owners.entries) _ _
    (consumers-same c.remove_id.new.owners.entries c.self.inside.owners.entries c.remove_id.ensures.seen) (rows-remove c.self.inside.rows c.remove.new.self c.args.id c.remove.ensures.updates))
