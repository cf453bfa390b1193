use Rattle.std.proofs.Common.{◌≡◌, length, map}
use Rattle.xs_desk.specs.LaneEnds.{lane_of}
use Rattle.xs_desk.specs.Opening.{AreNew}
use Rattle.xs_desk.proofs.opening.open_lanes.Given as goal

abbrev pub invariant-loop-lane : goal.invariant-loop-lane
invariant-loop-lane l = record {
  opened : AreNew 0 l.depth (map lane_of l.lane_ends.items) l.clients.items;
  count : length l.lane_ends.items ≡ l.lane;
}
