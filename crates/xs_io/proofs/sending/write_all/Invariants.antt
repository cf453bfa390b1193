use Rattle.std.proofs.Common.{◌≤◌, ◌-◌, length, take}
use Rattle.xs_io.specs.Passing.{Appends}
use Rattle.xs_io.proofs.sending.write_all.Given as goal

-- the first bytes are written
abbrev pub invariant-loop-sent : goal.invariant-loop-sent
invariant-loop-sent g l = Appends (g.W.Sink.held l.initial.writer) (g.W.Sink.held l.writer) (take l.sent l.bytes) × (l.sent ≤ length l.bytes)

abbrev pub decreases-loop-sent : goal.decreases-loop-sent
decreases-loop-sent g l = length l.bytes - l.sent
