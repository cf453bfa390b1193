use Rattle.std.proofs.Common.{rules, ◌≢◌, true, false, Err}
use Rattle.xs_work.specs.declared.ahead.AheadFault.TheVariants as fault
use Rattle.xs_work.proofs.AheadWork.{gate-none, gate-lost, gate-over, gate-more}
use Rattle.xs_work.proofs.worker.serve_gate.Goals.{in-Err-Port, in_default, in_default-2}
use Rattle.xs_work.proofs.worker.serve_gate.Goals as goal

pub loop-init : goal.loop-init
loop-init g c = gate-none c.args.client.now (g.G.Gate.trace c.args.gate.now)

pub returns-in-Err-Refused : goal.returns-in-Err-Refused
returns-in-Err-Refused g c =
    let trace = g.G.Gate.trace in
    let first = c.args.client.now in
    let before = trace c.args.gate.now in
    let over = rw c.in-Err-Refused.is at c.open_next.ensures in
    record {
      served = gate-over true first c.loop.client before (trace c.loop.gate) (trace c.open_next.new.self) (gate-lost first c.loop.client before (trace c.loop.gate) c.loop.invariant) over;
      over = λ n. absurd (cc);
    }

pub returns-then-matches : goal.returns-then-matches
returns-then-matches g c =
    let trace = g.G.Gate.trace in
    let first = c.args.client.now in
    let before = trace c.args.gate.now in
    record {
      served =
          gate-more true first c.loop.client c.serve_one-served.new.client before (trace c.loop.gate) (trace c.open_next.new.self) (trace c.close.new.self) _ _ c.serve_one-served.result c.manner.result c.manner.ensures
          (gate-lost first c.loop.client before (trace c.loop.gate) c.loop.invariant) (rw c.in-Ok-Some.field-0-is at c.in-Ok-Some.ensures) c.close.ensures (λ n. absurd (cc)) c.serve_one-served.ensures;
      over = λ n. absurd (cc);
    }

pub loop-preserved : goal.loop-preserved
loop-preserved g c =
    let trace = g.G.Gate.trace in
    let answered : c.serve_one-served.result ≢ Err fault.Port =
    λ port. elim c.match-matches.branch [
      | in-Err-Port w ↦ let yes = w.matches-is in let no = c.if-matches.false in search rules
      | in_default w ↦ let not = w.in_default in search rules
      | in_default-2 w ↦ let not = w.in_default in search rules
    ] in
    gate-more false c.args.client.now c.loop.client c.serve_one-served.new.client (trace c.args.gate.now) (trace c.loop.gate) (trace c.open_next.new.self) (trace c.close.new.self) _ _ c.serve_one-served.result c.manner.result c.manner.ensures
    c.loop.invariant (rw c.in-Ok-Some.field-0-is at c.in-Ok-Some.ensures) c.close.ensures (λ n. answered) c.serve_one-served.ensures
