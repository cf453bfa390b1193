use Rattle.std.proofs.Common.{◌≡◌, ap, ◌∙◌}
use Rattle.std.specs.Prelude.{Err}
use Rattle.xs_log.specs.declared.record.RecordFault.TheVariants.{Damaged}
use Rattle.xs_log.proofs.reading.apply_record.Goals as goal

pub returns-in-Err-clause-damaged : goal.returns-in-Err-clause-damaged
returns-in-Err-clause-damaged c = λ e event is.
    let same : c.in-Err.fault ≡ Damaged = cc (e) in
    c.read_record.ensures.damaged (c.in-Err.is ∙ ap (λ f. Err f) same) event is
