use Rattle.xs_group.proofs.Terms.{sym, ◌∙◌}
use Rattle.xs_group.proofs.Ordered.{entries-rows_of}
use Rattle.xs_group.proofs.RemovedRows.{named-agreed}
use Rattle.xs_group.proofs.pending.Pending.iter_rows.Goals as goal

pub returns-clause-rest : goal.returns-clause-rest
returns-clause-rest c = rw (← c.self.view_is) (c.new.ensures ∙ c.iter.ensures.rest ∙ sym (entries-rows_of c.self.inside.rows c.iter.ensures.ordered))

pub returns-clause-named : goal.returns-clause-named
returns-clause-named c = rw (← c.self.view_is) (named-agreed c.self.inside.rows.entries c.self.inside.owners.entries c.self.invariant)
