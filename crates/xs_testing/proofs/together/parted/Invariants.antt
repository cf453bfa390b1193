use Rattle.std.proofs.Common.{◌≡◌, ◌++◌, map}
use Rattle.std.specs.Vec.Iter.{into_iter_items}
use Rattle.xs_testing.proofs.together.parted.Given as goal

abbrev pub invariant-loop-one : goal.invariant-loop-one
invariant-loop-one g l = l.clients.items ++ map (λ s. s.client) (into_iter_items l.one-iterator) ≡ map (λ s. s.client) l.fn.seated.items
