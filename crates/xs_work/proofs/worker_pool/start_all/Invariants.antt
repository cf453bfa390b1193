use Rattle.std.proofs.Common.{◌≡◌, ◌≤◌, ◌+◌, ◌++◌, length, map, vec_capacity}
use Rattle.std.specs.Vec.Iter.{into_iter_items}
use Rattle.xs_work.proofs.worker_pool.start_all.Given as goal

-- the threads that are started are of the first workers
abbrev pub invariant-loop-worker : goal.invariant-loop-worker
invariant-loop-worker g l = record {
  room : length l.fn.workers.items ≤ vec_capacity l.started;
  count : length l.started.items + length (into_iter_items l.worker-iterator) ≡ length l.fn.workers.items;
  sides : map (λ s. s.promise.0.value) l.started.items ++ map (λ w. w.client) (into_iter_items l.worker-iterator) ≡ map (λ w. w.client) l.fn.workers.items;
  gates : map (λ s. s.promise.1.value) l.started.items ++ map (λ w. w.gate) (into_iter_items l.worker-iterator) ≡ map (λ w. w.gate) l.fn.workers.items;
}
