use Rattle.xs_group.proofs.Terms.{sym, ◌∙◌}
use Rattle.xs_group.proofs.pending.Pending.has_consumer.Goals as goal
use Rattle.xs_group.proofs.Views.{has_name-consumers_of}

pub returns : goal.returns
returns c = rw (← c.self.view_is) (c.contains_key.ensures ∙ sym (has_name-consumers_of c.self.inside.owners.entries c.args.name.now))
