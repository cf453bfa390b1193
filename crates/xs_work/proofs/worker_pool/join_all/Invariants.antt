use Rattle.std.proofs.Common.{◌≡◌, ◌≤◌, ◌+◌, ◌++◌, List, length, map, vec_capacity}
use Rattle.std.specs.Prelude.{is_err}
use Rattle.std.specs.Vec.Iter.{into_iter_items, into_iter_len}
use Rattle.xs_desk.specs.Callers.{Caller}
use Rattle.xs_desk.specs.KeptRings.{KeepSides}
use Rattle.xs_work.specs.Gates.{GateTrace}
use Rattle.xs_work.specs.Workers.{WorkEach}
use Rattle.xs_work.proofs.worker_pool.join_all.Given as goal

-- the ends and the gates are those of the first threads
abbrev pub invariant-loop-one : goal.invariant-loop-one
invariant-loop-one g l = record {
  room : length l.fn.started.items ≤ vec_capacity l.ended;
  gate_room : length l.fn.started.items ≤ vec_capacity l.gates;
  count : length l.ended.items + length (into_iter_items l.one-iterator) ≡ length l.fn.started.items;
  len : into_iter_len l.one-iterator ≡ length (into_iter_items l.one-iterator);
  gates_count : length l.gates.items ≡ length l.ended.items;
  done : List Caller;
  before : List GateTrace;
  done_count : length done ≡ length l.ended.items;
  before_count : length before ≡ length l.ended.items;
  sides : KeepSides done l.ended.items;
  work : WorkEach (is_err l.outcome) done l.ended.items before (map g.G.Gate.trace l.gates.items);
  done_are : done ++ map (λ s. s.promise.0.value) (into_iter_items l.one-iterator) ≡ map (λ s. s.promise.0.value) l.fn.started.items;
  before_are : before ++ map (λ s. g.G.Gate.trace s.promise.1.value) (into_iter_items l.one-iterator) ≡ map (λ s. g.G.Gate.trace s.promise.1.value) l.fn.started.items;
}
