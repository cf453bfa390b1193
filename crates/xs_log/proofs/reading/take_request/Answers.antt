use Rattle.std.proofs.Common.{inl, inr, ap, ◌∙◌}
use Rattle.std.specs.Prelude.{Err}
use Rattle.xs_log.proofs.reading.take_request.Goals as goal

pub returns-in-Err-Damaged-clause-err : goal.returns-in-Err-Damaged-clause-err
returns-in-Err-Damaged-clause-err c = inr (λ may. elim may [
  | inl header ↦ absurd (c.if-at-eq0.false header.0)
  | inr taken ↦ c.apply_record.ensures.damaged (c.in-Err-Damaged.is ∙ ap (λ f. Err f) c.in-Err-Damaged.field-0-is) (taken.1).0 (taken.1).1
])
