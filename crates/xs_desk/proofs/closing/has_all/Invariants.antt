use Rattle.std.proofs.Common.{ℕ, ◌<◌}
use Rattle.xs_desk.specs.Callers.{HasEndOfLane}
use Rattle.xs_desk.proofs.closing.has_all.Given as goal

abbrev pub invariant-loop-k : goal.invariant-loop-k
invariant-loop-k l = (j : ℕ) → j < l.k → HasEndOfLane l.ended.items j
