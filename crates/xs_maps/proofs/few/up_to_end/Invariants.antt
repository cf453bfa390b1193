use Rattle.std.specs.Range.Bound.{bound_map}
use Rattle.std_collections.specs.Layout.BTreeMapQueries.{end_test}
use Rattle.std_collections.proofs.Seek.{AboveFirst}
use Rattle.xs_maps.proofs.few.up_to_end.Given as goal

-- the entries so far are before the end
abbrev pub invariant-loop-at : goal.invariant-loop-at
invariant-loop-at g l = AboveFirst (end_test g.K.Ord.cmp (bound_map (λ x. x.now) l.end)) l.entries l.at
