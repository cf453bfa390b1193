use Rattle.xs_desk.specs.Asking.{Takes}
use Rattle.xs_desk.proofs.lane.receive.Given as goal

abbrev pub invariant-loop : goal.invariant-loop
invariant-loop g l = Takes l.fn.client l.client
