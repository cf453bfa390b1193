use Rattle.std.proofs.Common.{ap, ◌∙◌}
use Rattle.std.specs.BTreeMap.Range.{range_contains}
use Rattle.std_collections.proofs.SetKeys.{filtered_seen}
use Rattle.xs_maps.proofs.small_set.SmallSet.range.Goals as goal

pub returns-clause-between : goal.returns-clause-between
returns-clause-between g c = λ told.
    c.new.ensures ∙ filtered_seen c.self.inside.map.entries (ap (λ s. s.keys) c.self.view_is) c.range.result
    (range_contains g.K.Ord.cmp (g.R.RangeBounds.start_bound c.args.range) (g.R.RangeBounds.end_bound c.args.range)) (c.range.ensures.between told)
