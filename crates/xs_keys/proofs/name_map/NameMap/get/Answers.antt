use Rattle.std.proofs.Common.{sym, ◌∙◌}
use Rattle.xs_keys.proofs.CodeMaps.{get-entries}
use Rattle.xs_keys.proofs.name_map.NameMap.get.Goals as goal

pub returns : goal.returns
returns g c = rw (← c.self.view_is) (c.get.ensures.value ∙ sym (get-entries c.self.inside.entries c.args.name.now))
