use Rattle.std.proofs.Common.{◌≡◌}
use Rattle.xs_desk.specs.Asking.{Takes}
use Rattle.xs_desk.proofs.lane.submit.Given as goal

abbrev pub invariant-loop : goal.invariant-loop
invariant-loop g l = record {
  taken : Takes l.fn.client l.client;
  same : l.call ≡ l.fn.call;
}
