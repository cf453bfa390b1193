use Rattle.std_collections.proofs.Seek.{AboveFirst}
use Rattle.xs_maps.proofs.few.place.Given as goal

-- the key is above the entries so far
abbrev pub invariant-loop-at : goal.invariant-loop-at
invariant-loop-at g l = AboveFirst (g.K.Ord.cmp l.key) l.entries l.at
