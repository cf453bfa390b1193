use Rattle.xs_group.proofs.Terms.{sym, ◌∙◌, id_cmp, partial-below}
use Rattle.xs_group.proofs.Ordered.{is_sorted-from}
use Rattle.xs_group.proofs.NextRows.{past-last, past-nothing, past-without_last, past-rows_of}
use Rattle.xs_group.proofs.pending.Pending.is_past_rows.Goals as goal

pub returns-then-len-eq0 : goal.returns-then-len-eq0
returns-then-len-eq0 c =
    let m = c.self.inside.rows in
    rw (← c.self.view_is) (past-nothing m.entries c.args.id (sym c.len.ensures.len ∙ c.if-len-eq0.true)
    ∙ sym (past-rows_of m c.args.id c.len.ensures.ordered))

pub returns-in-Some : goal.returns-in-Some
returns-in-Some c =
    let m = c.self.inside.rows in
    let ordered = c.len.ensures.ordered in
    rw (← c.self.view_is) (c.lt.ensures ∙ partial-below _ _
    ∙ past-last m.entries c.args.id c.in-Some.last (is_sorted-from id_cmp m.entries ordered) c.in-Some.ensures
    ∙ sym (past-rows_of m c.args.id ordered))

pub returns-in-None : goal.returns-in-None
returns-in-None c =
    let m = c.self.inside.rows in
    rw (← c.self.view_is) (past-without_last m.entries c.args.id c.in-None.ensures
    ∙ sym (past-rows_of m c.args.id c.len.ensures.ordered))
