use Rattle.xs_group.proofs.Terms.{Some, sym, ap, ◌∙◌, subst, rules, UpdatesBy, id_cmp, RowState, claimed_row, arith}
use Rattle.xs_group.proofs.MovedRows.{moved-some, row-moved}
use Rattle.xs_group.proofs.moving.move_row.Goals as goal

pub returns-clause-rows : goal.returns-clause-rows
returns-clause-rows c =
    row-moved c.args.rows.now (c.get_mut.follows.lender c.claim.new.self) c.args.id c.in-Some.entry.now c.args.name.now
    c.args.terms.now.moment c.args.terms.now.rule (sym c.in-Some.ensures.value)
    (subst (λ (row : RowState). UpdatesBy id_cmp (id_cmp c.args.id) c.args.rows.now (c.get_mut.follows.lender c.claim.new.self) (Some row))
    (c.claim.ensures ∙ ap (λ k. claimed_row k c.args.terms.now.moment c.args.terms.now.rule c.in-Some.entry.now)
    c.requires) ((c.get_mut.follows.holds c.claim.new.self).3 (search rules)))

pub returns-clause-agreed : goal.returns-clause-agreed
returns-clause-agreed c = λ rest apart but.
    moved-some c.args.rows.now (c.get_mut.follows.lender c.claim.new.self) c.args.owners.now.entries
    c.leave_owner.new.owners.entries c.args.name.now c.args.id rest but
    c.in-Some.entry.now c.claim.new.self (sym c.in-Some.ensures.value)
    (ap (λ (row : RowState). row.consumer) c.claim.ensures ∙ c.requires)
    ((c.get_mut.follows.holds c.claim.new.self).3 (search rules)) (λ q x. grind (arith, c.leave_owner.ensures.ids q x))
