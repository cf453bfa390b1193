use Rattle.std.proofs.Common.{sym, ◌∙◌}
use Rattle.xs_keys.proofs.CodeMaps.{entries-entries}
use Rattle.xs_keys.proofs.name_map.NameMap.iter.Goals as goal

pub returns : goal.returns
returns g c = rw (← c.self.view_is) (c.iter.ensures.rest ∙ sym (entries-entries c.self.inside.entries c.iter.ensures.ordered))
