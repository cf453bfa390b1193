use Rattle.std.proofs.lemmas.Result.{on_ok_weaker}
use Rattle.xs_keys.proofs.CodeMaps.{insert-entries}
use Rattle.xs_keys.proofs.name_map.NameMap.insert.Goals as goal

pub returns-clause-ok : goal.returns-clause-ok
returns-clause-ok g c =
    rw (← c.self.view_is) (on_ok_weaker c.insert.result (insert-entries c.self.inside.entries c.insert.new.self c.args.name c.args.value) c.insert.ensures.updates)
