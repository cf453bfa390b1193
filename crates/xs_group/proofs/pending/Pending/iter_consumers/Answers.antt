use Rattle.xs_group.proofs.Terms.{map, sym, ap, ◌∙◌}
use Rattle.xs_group.proofs.ReportRows.{with_moment, entries-consumers_of}
use Rattle.xs_group.proofs.pending.Pending.iter_consumers.Goals as goal

pub returns : goal.returns
returns c = rw (← c.self.view_is) (c.new.ensures ∙ ap (map with_moment) c.iter.ensures.rest ∙ sym (entries-consumers_of c.self.inside.owners c.iter.ensures.ordered))
