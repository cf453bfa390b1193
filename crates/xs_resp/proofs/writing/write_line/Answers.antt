use Rattle.std.proofs.Common.{◌<◌, ◌≤◌, arith}
use Rattle.std.proofs.lemmas.Fmt.{decimal_digit}
use Rattle.std.proofs.lemmas.Bool.Decides.{nat_tests}
use Rattle.xs_resp.proofs.TwoDigits.{two-digits}
use Rattle.xs_resp.proofs.writing.write_line.Goals as goal

pub returns-then-number-lt10-clause-text : goal.returns-then-number-lt10-clause-text
returns-then-number-lt10-clause-text c =
    let small : c.args.number < 10 = grind (arith, nat_tests) in
    rw (decimal_digit c.args.number small) c.write_digit.ensures.text

pub returns-then-number-lt100-clause-text : goal.returns-then-number-lt100-clause-text
returns-then-number-lt100-clause-text c =
    let low : 10 ≤ c.args.number = grind (arith, nat_tests) in
    let high : c.args.number < 100 = grind (arith, nat_tests) in
    rw (two-digits c.args.number low high) c.write_two_digits.ensures.text
