use Rattle.std.proofs.Common.{◌≡◌, ℕ, ◌<◌, length, map, slice_get, Some}
use Rattle.xs_desk.specs.declared.lane_end.LaneEnd.{LaneEnd}
use Rattle.xs_desk.specs.LaneEnds.{lane_of, handed_out}
use Rattle.xs_desk.proofs.keeper.release_each.Given as goal

-- the lanes so far have handed all answers out
abbrev pub invariant-loop-k : goal.invariant-loop-k
invariant-loop-k l = record {
  lanes : map lane_of l.lane_ends.items ≡ map lane_of l.fn.lane_ends.items;
  count : length l.lane_ends.items ≡ length l.fn.lane_ends.items;
  handed : (j : ℕ) (lane_end : LaneEnd) → j < l.k → slice_get l.lane_ends.items j ≡ Some lane_end → handed_out lane_end ≡ (lane_of lane_end).sent;
}
