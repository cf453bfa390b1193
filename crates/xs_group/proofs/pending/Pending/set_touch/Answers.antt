use Rattle.xs_group.proofs.Terms.{Some, sym, ap, ◌∙◌, subst, rules, UpdatesBy, id_cmp, RowState, rows_of, consumers_of}
use Rattle.xs_group.proofs.Terms.{IsAgreed}
use Rattle.xs_group.proofs.pending.Pending.set_touch.Goals as goal
use Rattle.xs_group.proofs.Touching.{rows-touched, untouched, agreed-touched}
use Rattle.xs_group.proofs.Views.{RowMap, get-rows_of}

pub invariant_of-self : goal.invariant_of-self
invariant_of-self c = subst (λ m. IsAgreed m.entries c.self.inside.owners.entries) (sym c.get_mut.follows.holds-at-none) c.self.invariant

pub returns : goal.returns
returns c =
    let m = c.self.inside.rows in
    let u = subst (λ (row : RowState). UpdatesBy id_cmp (id_cmp c.args.id) m (c.get_mut.follows.lender c.set_touch.new.self) (Some row)) c.set_touch.ensures
    ((c.get_mut.follows.holds c.set_touch.new.self).3 (search rules)) in
    rw (← c.self.view_is) (ap (λ rows. record { consumers = consumers_of c.self.inside.owners.entries; rows = rows })
    (rows-touched m (c.get_mut.follows.lender c.set_touch.new.self) c.args.id c.args.touch c.in-Some.entry.now (sym c.in-Some.ensures.value) u))

pub returns-in_default : goal.returns-in_default
returns-in_default c =
    let m = c.self.inside.rows in
    rw (← c.self.view_is) (ap (λ rows. record { consumers = consumers_of c.self.inside.owners.entries; rows = rows })
    (ap (λ (n : RowMap). rows_of n.entries) c.get_mut.follows.holds-at-none
    ∙ untouched (rows_of m.entries) c.args.id c.args.touch (get-rows_of m.entries c.args.id ∙ sym c.in_default.ensures.value)))

pub invariant_of-self-2 : goal.invariant_of-self-2
invariant_of-self-2 c =
    let m = c.self.inside.rows in
    let u = subst (λ (row : RowState). UpdatesBy id_cmp (id_cmp c.args.id) m (c.get_mut.follows.lender c.set_touch.new.self) (Some row)) c.set_touch.ensures
    ((c.get_mut.follows.holds c.set_touch.new.self).3 (search rules)) in
    agreed-touched m (c.get_mut.follows.lender c.set_touch.new.self) c.self.inside.owners.entries c.args.id c.args.touch c.in-Some.entry.now c.self.invariant (sym c.in-Some.ensures.value) u
