use Rattle.xs_group.proofs.Terms.{[], map, take, sym, ap, ◌∙◌, pending_row, has_among, ids_of_owner}
use Rattle.xs_group.proofs.OwnIds.{owned-none}
use Rattle.xs_group.proofs.ReportRows.{asked-owned, take-none}
use Rattle.xs_group.proofs.pending.Pending.owned_within.Goals as goal

pub returns-in_default : goal.returns-in_default
returns-in_default c =
    let own = owned-none c.self.inside.rows.entries c.self.inside.owners.entries c.args.name.now c.self.invariant (ap ids_of_owner c.in_default.ensures.value) in
    rw (← c.self.view_is) (c.new.ensures.items ∙ sym (take-none c.args.selection.now.limit)
    ∙ ap (λ es. take c.args.selection.now.limit (map (pending_row c.args.selection.now.moment) es))
    (asked-owned c.args.selection.now c.args.name.now c.self.inside.rows.entries [] own))

pub returns : goal.returns
returns c = rw (← c.self.view_is) (c.rows_of_ids.ensures c.args.name.now (λ x.
    ap (λ o. has_among (ids_of_owner o) x) c.in-Some.ensures.value ∙ c.self.invariant c.args.name.now x))
