use Rattle.std.specs.Range.Bound.{bound_map}
use Rattle.std_collections.specs.Layout.BTreeMapQueries.{start_test}
use Rattle.std_collections.proofs.Seek.{AboveFirst}
use Rattle.xs_maps.proofs.few.from_start.Given as goal

-- the entries so far are before the start
abbrev pub invariant-loop-at : goal.invariant-loop-at
invariant-loop-at g l = AboveFirst (start_test g.K.Ord.cmp (bound_map (λ x. x.now) l.start)) l.entries l.at
