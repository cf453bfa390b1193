use Rattle.std.proofs.Common.{◌≡◌, List, [], ◌∷◌, ◌++◌, sym, ap, subst, arith, length, length-append}
use Rattle.std.specs.List.{All}
use Rattle.std.proofs.lemmas.List.Elements.{All-push}
use Rattle.xs_tcp.specs.declared.serve_gate.TcpGate.{TcpGate}
use Rattle.xs_session.specs.declared.manner.Manner.TheVariants.{Plain}
use Rattle.xs_work.specs.Gates.{new_gate, with_manner}
use Rattle.xs_server.proofs.serve_command.gates_of.Goals as goal

pub loop-worker-preserved : goal.loop-worker-preserved
loop-worker-preserved g c =
    let inv = c.loop-worker.invariant in
    let before = c.loop-worker.gates.items in
    let gate = c.in_ok-gate.gate in
    let pushed = c.in_ok-push.ensures in
    let IsNew : TcpGate g.row.S.Denot → Type 0 = λ one. with_manner Plain one.register ≡ new_gate Plain in
    record {
      count = omega (arith, ap length pushed.items, length-append before (gate ∷ []), inv.count);
      new = subst (λ (gates : List (TcpGate g.row.S.Denot)). All IsNew gates) (sym pushed.items) (All-push IsNew before gate inv.new c.in_ok-gate.ensures);
    }
