use Rattle.std.proofs.Common.{sym, ◌∙◌}
use Rattle.xs_keys.proofs.CodeMaps.{get-entries, remove-entries}
use Rattle.xs_keys.proofs.name_map.NameMap.remove.Goals as goal

pub returns-clause-value : goal.returns-clause-value
returns-clause-value g c = rw (← c.self.view_is) (c.remove.ensures.value ∙ sym (get-entries c.self.inside.entries c.args.name.now))

pub returns-clause-map : goal.returns-clause-map
returns-clause-map g c = rw (← c.self.view_is) (remove-entries c.self.inside.entries c.remove.new.self c.args.name.now c.remove.ensures.updates)
