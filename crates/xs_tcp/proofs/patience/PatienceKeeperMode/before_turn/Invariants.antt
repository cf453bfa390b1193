use Rattle.std.proofs.Common.{◌≡◌}
use Rattle.xs_tcp.proofs.patience.PatienceKeeperMode.before_turn.Given as goal

abbrev pub invariant-loop : goal.invariant-loop
invariant-loop g l = l.keeper ≡ l.fn.keeper
