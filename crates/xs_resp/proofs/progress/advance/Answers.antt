use Rattle.std.proofs.Common.{◌≡◌, ◌-◌, suc, Ok, sym, ap, ◌∙◌, arith}
use Rattle.std.proofs.lemmas.Result.{err_from_is_err_and}
use Rattle.xs_resp.specs.Reading.{bulk_string}
use Rattle.xs_resp.proofs.Progressing.{follows-none, follows-err, follows-word}
use Rattle.xs_resp.proofs.progress.advance.Goals as goal

pub returns-in_err-span : goal.returns-in_err-span
returns-in_err-span c =
    let p = err_from_is_err_and c.from_residual.result c.from_residual.ensures.1 in
    let some : c.loop-progress.progress.left ≡ suc (c.loop-progress.progress.left - 1) = omega arith in
    let read = ap bulk_string (sym c.rest_of.ensures) ∙ sym c.in_err-span.ensures.value in
    rw (p.1, p.2) (follows-err c.args.bytes.now c.loop-progress.progress _ _ c.loop-progress.invariant some read)

pub returns-in_default : goal.returns-in_default
returns-in_default c =
    let some : c.loop-progress.progress.left ≡ suc (c.loop-progress.progress.left - 1) = omega arith in
    (c.loop-progress.invariant, λ _. follows-none c.args.bytes.now c.loop-progress.progress _ c.loop-progress.invariant some (ap bulk_string (sym c.rest_of.ensures) ∙ sym c.in_ok-span.ensures.value ∙ ap Ok c.in_default.is))

pub loop-progress-preserved : goal.loop-progress-preserved
loop-progress-preserved c =
    let some : c.loop-progress.progress.left ≡ suc (c.loop-progress.progress.left - 1) = omega arith in
    follows-word c.args.bytes.now c.loop-progress.progress _ c.in-Some.span c.loop-progress.invariant some (ap bulk_string (sym c.rest_of.ensures) ∙ sym c.in_ok-span.ensures.value ∙ ap Ok c.in-Some.is)
