use Rattle.std.proofs.Common.{Some, ap}
use Rattle.std.proofs.lemmas.Result.{on_ok_weaker}
use Rattle.std.specs.BTreeMap.{is_at}
use Rattle.std.specs.Ordering.{eq_by_cmp}
use Rattle.std_collections.proofs.SetKeys.{updates_seen}
use Rattle.xs_maps.proofs.small_set.SmallSet.insert.Goals as goal

pub returns-clause-updates : goal.returns-clause-updates
returns-clause-updates g c =
    on_ok_weaker c.insert.result
    (updates_seen c.self.inside.map.entries (ap (λ s. s.keys) c.self.view_is) c.insert.new.self.entries (eq_by_cmp g.K.Ord.cmp) (is_at (g.K.Ord.cmp c.args.key)) (Some tt))
    c.insert.ensures.updates
