use Rattle.std.proofs.Common.{is_some, sym, ap, ◌∙◌}
use Rattle.xs_keys.proofs.CodeMaps.{get-entries}
use Rattle.xs_keys.proofs.name_map.NameMap.contains_key.Goals as goal

pub returns : goal.returns
returns g c = rw (← c.self.view_is) (c.contains_key.ensures ∙ sym (ap is_some (get-entries c.self.inside.entries c.args.name.now)))
