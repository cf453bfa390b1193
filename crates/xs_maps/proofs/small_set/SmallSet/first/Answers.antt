use Rattle.std.proofs.Common.{ap}
use Rattle.std_collections.proofs.SetKeys.{nth_seen}
use Rattle.xs_maps.proofs.Sorted.{first-in}
use Rattle.xs_maps.proofs.small_set.SmallSet.first.Goals as goal

pub returns-in-Some-clause-member : goal.returns-in-Some-clause-member
returns-in-Some-clause-member g c =
    first-in g.met.K.Ord.total c.args.self.now.keys c.in-Some.key.now
    (nth_seen c.self.inside.map.entries (ap (λ s. s.keys) c.self.view_is) 0 c.in-Some.key.now c.in-Some.field-0-1.now c.in-Some.ensures.first)
