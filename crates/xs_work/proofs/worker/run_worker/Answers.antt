use Rattle.std.proofs.Common.{true, is_err, sym, subst}
use Rattle.xs_desk.specs.Callers.{Caller}
use Rattle.xs_desk.specs.KeptRings.{KeepsSide}
use Rattle.xs_work.specs.Workers.{Works}
use Rattle.xs_work.proofs.AheadWork.{works-none, works-side}
use Rattle.xs_work.proofs.worker.run_worker.Goals as goal

pub returns-then-not-wait_to_begin-clause-works : goal.returns-then-not-wait_to_begin-clause-works
returns-then-not-wait_to_begin-clause-works g c =
    let gate = g.G.Gate.trace c.args.worker.gate in
    subst (λ (end : Caller). Works true c.args.worker.client end gate gate) (sym c.finish.ensures) (works-none c.args.worker.client gate)

pub returns-clause-side : goal.returns-clause-side
returns-clause-side g c =
    let served = c.serve_gate-outcome in
    subst (λ (end : Caller). KeepsSide c.args.worker.client end) (sym c.finish-2.ensures)
    (works-side (is_err served.result) c.args.worker.client served.new.client (g.G.Gate.trace c.args.worker.gate) (g.G.Gate.trace served.new.gate) served.ensures)
