use Rattle.std.proofs.Common.{◌≡◌, length}
use Rattle.std.specs.List.{All}
use Rattle.xs_session.specs.declared.manner.Manner.TheVariants.{Plain}
use Rattle.xs_work.specs.Gates.{new_gate, with_manner}
use Rattle.xs_server.proofs.serve_command.gates_of.Given as goal

-- a gate for each worker so far, none of which has given a connection
abbrev pub invariant-loop-worker : goal.invariant-loop-worker
invariant-loop-worker g l = record {
  count : length l.gates.items ≡ l._worker;
  new : All (λ gate. with_manner Plain gate.register ≡ new_gate Plain) l.gates.items;
}
