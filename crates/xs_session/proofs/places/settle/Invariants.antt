use Rattle.std.proofs.Common.{◌≡◌, ◌+◌, ◌≤◌}
use Rattle.std.specs.VecDeque.{deque_len, deque_capacity}
use Rattle.xs_session.specs.Places.{places_of}
use Rattle.xs_session.proofs.places.settle.Given as goal

-- the places are the same
abbrev pub invariant-loop-behind : goal.invariant-loop-behind
invariant-loop-behind l = record {
  view : places_of l.ready.items l.behind.items ≡ places_of l.fn.ready.items l.fn.behind.items;
  room : deque_len l.ready + deque_len l.behind ≤ 32;
  ready : 32 ≤ deque_capacity l.ready;
  behind : deque_capacity l.behind ≡ deque_capacity l.fn.behind;
}

abbrev pub decreases-loop-behind : goal.decreases-loop-behind
decreases-loop-behind l = deque_len l.behind
