use Rattle.xs_group.proofs.Terms.{Some, sym, ap, ◌∙◌, touch_of}
use Rattle.xs_group.proofs.pending.Pending.touch_at.Goals as goal
use Rattle.xs_group.proofs.Views.{get-rows_of}

pub returns-in-Some : goal.returns-in-Some
returns-in-Some c = rw (← c.self.view_is) (ap Some c.touch.ensures ∙ ap touch_of (c.in-Some.ensures.value ∙ sym (get-rows_of c.self.inside.rows.entries c.args.id)))

pub returns-in-None : goal.returns-in-None
returns-in-None c = rw (← c.self.view_is) (ap touch_of (c.in-None.ensures.value ∙ sym (get-rows_of c.self.inside.rows.entries c.args.id)))
