use Rattle.xs_group.proofs.Terms.{sym, ap, ◌∙◌, seen_of}
use Rattle.xs_group.proofs.Views.{get-consumers_of}
use Rattle.xs_group.proofs.pending.Pending.seen_at.Goals as goal

pub returns-in-Some : goal.returns-in-Some
returns-in-Some c = rw (← c.self.view_is) (ap seen_of c.in-Some.ensures.value ∙ sym (get-consumers_of c.self.inside.owners.entries c.args.name.now))

pub returns-in-None : goal.returns-in-None
returns-in-None c = rw (← c.self.view_is) (ap seen_of c.in-None.ensures.value ∙ sym (get-consumers_of c.self.inside.owners.entries c.args.name.now))
