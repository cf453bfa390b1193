use Rattle.std.proofs.Common.{◌≡◌, ◌++◌, map}
use Rattle.std.specs.Vec.Iter.{into_iter_items}
use Rattle.xs_testing.proofs.together.seat_all.Given as goal

abbrev pub invariant-loop-client : goal.invariant-loop-client
invariant-loop-client g l = map (λ s. s.client) l.seated.items ++ into_iter_items l.client-iterator ≡ l.fn.clients.items
