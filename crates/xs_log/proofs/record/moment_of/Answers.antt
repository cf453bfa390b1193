use Rattle.std.proofs.Common.{sym, ap, ◌∙◌, decimal, arith}
use Rattle.xs_tape.proofs.Naturals.{spelled_once, no_number, same_number}
use Rattle.xs_log.proofs.Naturals.{moment_in, moment_over}
use Rattle.xs_log.proofs.record.moment_of.Goals as goal

pub returns-in_default : goal.returns-in_default
returns-in_default c = λ now small is. no_number c.as_slice.result.now now (sym c.natural.ensures ∙ c.in_default.is) (omega (arith, small)) (c.as_slice.ensures ∙ is)

pub returns-in_default-new : goal.returns-in_default-new
returns-in_default-new c = λ now small is.
    moment_over c.in-Some.number now (sym c.new.ensures ∙ c.in_default-new.is) small
    (same_number c.as_slice.result.now c.in-Some.number now (sym c.natural.ensures ∙ c.in-Some.is) (omega (arith, small)) (c.as_slice.ensures ∙ is))

pub returns : goal.returns
returns c =
    let is = moment_in c.in-Some.number c.in-Some-new.now (sym c.new.ensures ∙ c.in-Some-new.is) in
    let word = spelled_once c.as_slice.result.now c.in-Some.number (sym c.natural.ensures ∙ c.in-Some.is) in
    (sym c.as_slice.ensures ∙ word ∙ ap decimal is.0, is.1)
