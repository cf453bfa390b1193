use Rattle.std.proofs.Common.{◌≡◌, ◌++◌, map}
use Rattle.std.specs.Vec.Iter.{into_iter_items}
use Rattle.xs_work.proofs.worker_pool.make_workers.Given as goal

abbrev pub invariant-loop-client : goal.invariant-loop-client
invariant-loop-client g l = record {
  clients : map (λ w. w.client) l.workers.items ++ into_iter_items l.client-iterator ≡ l.fn.clients.items;
  gates : map (λ w. w.gate) l.workers.items ++ into_iter_items l.gates ≡ l.fn.gates.items;
}
