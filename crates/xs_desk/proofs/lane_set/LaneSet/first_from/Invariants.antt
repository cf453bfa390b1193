use Rattle.std.proofs.Common.{◌-◌, ◌≤◌}
use Rattle.xs_desk.proofs.lane_set.LaneSet.first_from.Given as goal

-- the lanes before have been skipped
abbrev pub invariant-loop-from : goal.invariant-loop-from
invariant-loop-from l = l.fn.from ≤ l.from

abbrev pub decreases-loop-from : goal.decreases-loop-from
decreases-loop-from l = l.end - l.from
