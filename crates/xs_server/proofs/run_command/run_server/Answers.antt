use Rattle.std.proofs.Common.{map}
use Rattle.xs_session.specs.declared.manner.Manner.TheVariants.{Full}
use Rattle.xs_work.specs.Gates.{with_manner}
use Rattle.xs_server.proofs.Reports.{served-at-zero}
use Rattle.xs_server.proofs.run_command.run_server.Goals as goal

pub returns : goal.returns
returns g c = record {
  served =
      let made = c.in-Ok.ensures in
      served-at-zero (λ failed. failed.fault) _ c.in-Ok.ready.gates.items (Full c.args.password.now) c.args.options.now.workers (λ outcome. map (λ gate. with_manner (Full gate.password) gate.register) outcome.gates.items) (λ outcome. outcome.summary) c.work_with-worked.result _ _ _ _ _ _
      made.gates made.new c.work_with-worked.ensures.closed c.report_worked.ensures;
}
