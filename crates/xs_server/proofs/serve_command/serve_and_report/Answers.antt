use Rattle.std.proofs.Common.{inl, inr, refl, map}
use Rattle.xs_session.specs.declared.manner.Manner.TheVariants.{Plain}
use Rattle.xs_server.specs.Report.{memory_text, listening_text}
use Rattle.xs_work.specs.Gates.{with_manner}
use Rattle.xs_server.proofs.Reports.{served-at-zero, reported-of-work}
use Rattle.xs_server.proofs.serve_command.serve_and_report.Goals as goal

pub returns-in-Err-clause-reported : goal.returns-in-Err-clause-reported
returns-in-Err-clause-reported g c = inr (c.report_memory.ensures.status, memory_text, inl refl, c.report_memory.ensures.said)

pub returns-in-Err-2-clause-reported : goal.returns-in-Err-2-clause-reported
returns-in-Err-2-clause-reported g c = inr (c.report_listening.ensures.status, listening_text, inr (inl refl), c.report_listening.ensures.said)

pub returns-in_default-gates_of-clause-reported : goal.returns-in_default-gates_of-clause-reported
returns-in_default-gates_of-clause-reported g c =
    inr (c.report_memory-in_default-gates_of.ensures.status, memory_text, inl refl, c.report_memory-in_default-gates_of.ensures.said)

pub returns-clause-served : goal.returns-clause-served
returns-clause-served g c =
    let made = c.in-Ok-gates_of.ensures in
    served-at-zero (λ failed. failed.fault) _ c.in-Ok-gates_of.gates.items Plain c.args.options.workers (λ outcome. map (λ gate. with_manner Plain gate.register) outcome.gates.items) (λ outcome. outcome.summary) c.work-worked.result _ _ _ _ _ _
    made.count made.new c.work-worked.ensures.closed c.report_worked.ensures

pub returns-clause-reported : goal.returns-clause-reported
returns-clause-reported g c = reported-of-work (λ failed. failed.fault) c.work-worked.result _ _ _ _ _ _ c.report_worked.ensures

pub returns-in_default-clause-reported : goal.returns-in_default-clause-reported
returns-in_default-clause-reported g c = inr (c.report_memory-in_default.ensures.status, memory_text, inl refl, c.report_memory-in_default.ensures.said)
