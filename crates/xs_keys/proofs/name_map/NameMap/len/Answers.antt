use Rattle.std.proofs.Common.{length, sym, ap, ◌∙◌}
use Rattle.xs_keys.proofs.CodeMaps.{entries-entries}
use Rattle.xs_keys.proofs.name_map.NameMap.len.Goals as goal

pub returns-clause-value : goal.returns-clause-value
returns-clause-value g c = rw (← c.self.view_is) (c.len.ensures.len ∙ sym (ap length (entries-entries c.self.inside.entries c.len.ensures.ordered)))
