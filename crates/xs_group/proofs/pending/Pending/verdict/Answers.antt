use Rattle.xs_group.proofs.Terms.{sym, ap, ◌∙◌, has_id, ids_of, verdict_of}
use Rattle.xs_group.proofs.pending.Pending.verdict.Goals as goal
use Rattle.xs_group.proofs.Views.{get-rows_of}

pub returns-in-Some : goal.returns-in-Some
returns-in-Some c = rw (← c.self.view_is) (c.judge.ensures
    ∙ ap (λ row. verdict_of row (has_id
    (ids_of c.args.stream.now.entries) c.args.id) c.args.terms.now.moment c.args.terms.now.rule)
    (c.in-Some.ensures.value ∙ sym (get-rows_of c.self.inside.rows.entries c.args.id)))

pub returns-in-None : goal.returns-in-None
returns-in-None c = rw (← c.self.view_is)
    (ap (λ row. verdict_of row (has_id
    (ids_of c.args.stream.now.entries) c.args.id) c.args.terms.now.moment c.args.terms.now.rule)
    (c.in-None.ensures.value ∙ sym (get-rows_of c.self.inside.rows.entries c.args.id)))
