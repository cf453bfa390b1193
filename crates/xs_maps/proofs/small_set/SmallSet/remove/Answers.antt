use Rattle.std.proofs.Common.{None, ap}
use Rattle.std.specs.BTreeMap.{is_at}
use Rattle.std.specs.Ordering.{eq_by_cmp}
use Rattle.std_collections.proofs.SetKeys.{updates_seen}
use Rattle.xs_maps.proofs.small_set.SmallSet.remove.Goals as goal

pub returns : goal.returns
returns g c =
    record { updates = updates_seen c.self.inside.map.entries (ap (λ s. s.keys) c.self.view_is) c.remove.new.self.entries (eq_by_cmp g.K.Ord.cmp) (is_at (g.K.Ord.cmp c.args.key.now)) None c.remove.ensures.updates }
