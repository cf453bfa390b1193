use Rattle.xs_group.proofs.Terms.{sym, ◌∙◌}
use Rattle.xs_group.proofs.ReportRows.{length-consumers_of}
use Rattle.xs_group.proofs.pending.Pending.count_consumers.Goals as goal

pub returns-clause-value : goal.returns-clause-value
returns-clause-value c = rw (← c.self.view_is) (c.len.ensures.len ∙ sym (length-consumers_of c.self.inside.owners c.len.ensures.ordered))
