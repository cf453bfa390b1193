use Rattle.xs_group.proofs.Terms.{length, sym, ap, ◌∙◌}
use Rattle.xs_group.proofs.pending.Pending.len.Goals as goal
use Rattle.xs_group.proofs.Ordered.{entries-rows_of}

pub returns-clause-value : goal.returns-clause-value
returns-clause-value c = rw (← c.self.view_is) (c.len.ensures.len ∙ sym (ap length (entries-rows_of c.self.inside.rows c.len.ensures.ordered)))
