use Rattle.std.proofs.Common.{false}
use Rattle.xs_work.specs.Workers.{ServesGate}
use Rattle.xs_work.proofs.worker.serve_gate.Given as goal

-- all connections so far were served, and all were answered
abbrev pub invariant-loop : goal.invariant-loop
invariant-loop g l = ServesGate false l.initial.client l.client (g.G.Gate.trace l.initial.gate) (g.G.Gate.trace l.gate)
