use Rattle.std.proofs.Common.{◌<◌, length, Ok, sym, ap, ◌∙◌, arith}
use Rattle.std.proofs.lemmas.Result.{err_from_is_err_and}
use Rattle.xs_command.specs.Fields.{pairs}
use Rattle.xs_command.proofs.FieldSteps.{step, no_fault, goes_on, ends}
use Rattle.xs_command.proofs.xadd.read_pairs.Goals as goal

pub returns-in_err-field : goal.returns-in_err-field
returns-in_err-field c =
    let p = err_from_is_err_and c.from_residual-in_err-field.result c.from_residual-in_err-field.ensures.1 in
    rw (p.1, p.2) (no_fault c.in_err-field.field-0.0 c.loop-pair.left (Ok (pairs c.args.words)) (omega (arith, c.loop-pair.invariant.1, c.loop-pair-test.true)) c.in_err-field.ensures)

pub loop-pair-preserved : goal.loop-pair-preserved
loop-pair-preserved c =
    let shorter = (step c.loop-pair.left c.in_ok-field.field c.in_ok-field.behind c.in_ok-field.ensures).shorter in (
      rw c.push_reserved.ensures.items (goes_on c.loop-pair.items.items c.loop-pair.left c.in_ok-field.field c.in_ok-field.behind c.in_ok-field.ensures ∙ c.loop-pair.invariant.0),
      omega (arith, c.loop-pair.invariant.1),
      omega (arith, c.loop-pair.invariant.2),
      omega (arith, c.push_reserved.ensures.len, c.loop-pair.invariant.3),
      omega (arith, c.push_reserved.ensures.capacity, c.loop-pair.invariant.4),
    )

pub returns : goal.returns
returns c =
    let none : length c.loop-pair.left < 2 = omega (arith, c.loop-pair.invariant.2) in
    ap Ok (sym (c.new.ensures ∙ sym (ends c.loop-pair.items.items c.loop-pair.left none) ∙ c.loop-pair.invariant.0))
