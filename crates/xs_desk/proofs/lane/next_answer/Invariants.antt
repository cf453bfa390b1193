use Rattle.std.proofs.Common.{◌≡◌}
use Rattle.xs_desk.proofs.lane.next_answer.Given as goal

abbrev pub invariant-loop : goal.invariant-loop
invariant-loop g l = l.client ≡ l.fn.client
