use Rattle.xs_group.proofs.Terms.{sym, ap, ◌∙◌, subst, rules, rows_of, consumers_of, IsAgreed, seen_of, Owner}
use Rattle.xs_group.proofs.ByConsumer.{Index}
use Rattle.xs_group.proofs.Agreeing.{agreed-seen, consumers-seen, unseen}
use Rattle.xs_group.proofs.Views.{get-consumers_of}
use Rattle.xs_group.proofs.pending.Pending.set_seen.Goals as goal

pub invariant_of-self : goal.invariant_of-self
invariant_of-self c = subst (λ (m : Index). IsAgreed c.self.inside.rows.entries m.entries) (sym c.get_mut.follows.holds-at-none) c.self.invariant

pub returns-in_default : goal.returns-in_default
returns-in_default c =
    let m = c.self.inside.owners in
    rw (← c.self.view_is) (ap (λ consumers. record { consumers = consumers; rows = rows_of c.self.inside.rows.entries })
    (ap (λ (n : Index). consumers_of n.entries) c.get_mut.follows.holds-at-none
    ∙ unseen (consumers_of m.entries) c.args.name.now c.args.seen (get-consumers_of m.entries c.args.name.now ∙ sym (ap seen_of c.in_default.ensures.value))))

pub invariant_of-self-2 : goal.invariant_of-self-2
invariant_of-self-2 c =
    let owner : Owner = record { seen = c.args.seen; ids = c.in-Some.owner.now.ids } in
    agreed-seen c.self.inside.owners (c.get_mut.follows.lender owner) c.args.name.now c.in-Some.owner.now c.args.seen (sym c.in-Some.ensures.value) ((c.get_mut.follows.holds owner).3 (search rules))
    c.self.inside.rows.entries c.self.invariant

pub returns : goal.returns
returns c =
    let owner : Owner = record { seen = c.args.seen; ids = c.in-Some.owner.now.ids } in
    rw (← c.self.view_is) (ap (λ consumers. record { consumers = consumers; rows = rows_of c.self.inside.rows.entries })
    (consumers-seen c.self.inside.owners (c.get_mut.follows.lender owner) c.args.name.now c.in-Some.owner.now c.args.seen (sym c.in-Some.ensures.value) ((c.get_mut.follows.holds owner).3 (search rules))))
