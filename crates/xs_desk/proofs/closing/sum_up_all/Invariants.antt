use Rattle.std.proofs.Common.{◌≡◌, ◌≤◌, length, map, vec_capacity}
use Rattle.xs_desk.specs.LaneEnds.{lane_of}
use Rattle.xs_desk.specs.Closing.{SumUp}
use Rattle.xs_desk.proofs.closing.sum_up_all.Given as goal

abbrev pub invariant-loop-k : goal.invariant-loop-k
invariant-loop-k l = record {
  room : length l.fn.lane_ends.items ≤ vec_capacity l.lanes;
  lane_ends : map lane_of l.lane_ends.items ≡ map lane_of l.fn.lane_ends.items;
  count : length l.lane_ends.items ≡ length l.fn.lane_ends.items;
  ended : l.ended.items ≡ l.fn.ended.items;
  summed : SumUp (map lane_of l.fn.lane_ends.items) l.fn.ended.items l.k l.lanes.items;
}
