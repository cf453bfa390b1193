use Rattle.std.proofs.Common.{◌-◌, ◌≤◌, length}
use Rattle.xs_session.proofs.reserve.add_pieces.Given as goal

-- there are at most `count`
abbrev pub invariant-loop-alloc : goal.invariant-loop-alloc
invariant-loop-alloc l = length l.pieces.items ≤ l.count

abbrev pub decreases-loop-alloc : goal.decreases-loop-alloc
decreases-loop-alloc l = l.count - length l.pieces.items
