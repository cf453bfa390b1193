use Rattle.xs_group.proofs.Terms.{◌≡◌, filter, sym, ap, ◌∙◌, subst, IfOk, is_below, up_to_limit, limited-none, ids_of_owner}
use Rattle.xs_group.proofs.pending.Pending.own_ids.Goals as goal
use Rattle.xs_group.proofs.OwnIds.{owned-none, owned-some}

pub returns-in_default : goal.returns-in_default
returns-in_default c =
    rw (← c.self.view_is) (c.new-in_default.ensures ∙ c.new.ensures.items ∙ sym (limited-none c.args.limit)
    ∙ ap (λ ids. up_to_limit c.args.limit (filter (λ x. is_below c.args.from x) ids))
    (owned-none c.self.inside.rows.entries c.self.inside.owners.entries c.args.name.now c.self.invariant (ap ids_of_owner c.in_default.ensures.value)))

pub returns : goal.returns
returns c =
    rw (← c.self.view_is) (subst (λ own. IfOk c.limited_above.result (λ ids. ids ≡ up_to_limit c.args.limit (filter (λ x. is_below c.args.from x) own)))
    (owned-some c.self.inside.rows.entries c.self.inside.owners.entries c.args.name.now c.in-Some.owner.now.ids
    c.self.invariant (ap ids_of_owner c.in-Some.ensures.value) c.limited_above.ensures.ordered)
    c.limited_above.ensures.above)
