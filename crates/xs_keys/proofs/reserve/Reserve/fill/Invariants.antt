use Rattle.std.proofs.Common.{◌-◌, ◌≤◌, length}
use Rattle.xs_keys.proofs.reserve.Reserve.fill.Given as goal

-- at most a full reserve
abbrev pub invariant-loop-alloc : goal.invariant-loop-alloc
invariant-loop-alloc l = length l.self-inside.pieces.items ≤ 64

abbrev pub decreases-loop-alloc : goal.decreases-loop-alloc
decreases-loop-alloc l = 64 - length l.self-inside.pieces.items
