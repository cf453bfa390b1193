use Rattle.std.proofs.Common.{◌≡◌, ◌<◌, length, true, Some, ap, sym, ◌∙◌, arith}
use Rattle.std.specs.List.{list_all}
use Rattle.std.proofs.lemmas.Bool.Decides.{nat_tests}
use Rattle.std.proofs.lemmas.List.{take_all}
use Rattle.xs_bytes.specs.Number.{value_of, is_digit}
use Rattle.xs_bytes.proofs.Digits.{value_at, number_of-big, number_of-small}
use Rattle.xs_bytes.proofs.decimal.number.Goals as goal

pub returns-in_err-checked_mul : goal.returns-in_err-checked_mul
returns-in_err-checked_mul c =
    let whole = value_at c.args.text.now c.loop-byte.byte-index c.loop-byte-test.true in
    c.from_residual.ensures ∙ sym (number_of-big c.args.text.now (omega arith))

pub returns-in_err-value : goal.returns-in_err-value
returns-in_err-value c =
    let whole = value_at c.args.text.now c.loop-byte.byte-index c.loop-byte-test.true in
    c.from_residual-in_err-value.ensures ∙ sym (number_of-big c.args.text.now (omega arith))

pub returns : goal.returns
returns c =
    let text = c.args.text.now in
    let whole = take_all c.loop-byte.byte-index text c.loop-byte-test.false in
    let value : c.loop-byte.value ≡ value_of text = rw whole at c.loop-byte.invariant.0 in
    let digits : list_all is_digit text ≡ true = rw whole at c.loop-byte.invariant.1 in
    let some : 0 < length text = grind (arith, nat_tests) in
    let small : value_of text < 18446744073709551616 = omega (arith, value, c.loop-byte.invariant.2) in
    ap Some value ∙ sym (number_of-small text some digits small)
