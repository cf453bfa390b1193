use Rattle.std.proofs.Common.{◌≢◌, inr, codes, ap, ◌∙◌}
use Rattle.std.specs.Prelude.{Err}
use Rattle.xs_tape.specs.Records.{with_checksum}
use Rattle.xs_log.specs.Fault.{IsWant}
use Rattle.xs_replay.specs.Log.{header_words}
use Rattle.xs_log.proofs.Headers.{behind_name, not_sealed, header_parts}
use Rattle.xs_log.proofs.Results.{err_left}
use Rattle.xs_log.proofs.header.check_header.Goals as goal

pub returns-in-Err-Damaged-clause-err : goal.returns-in-Err-Damaged-clause-err
returns-in-Err-Damaged-clause-err c = inr (c.record_of.ensures.damaged (c.in-Err-Damaged.is ∙ ap (λ f. Err f) c.in-Err-Damaged.field-0-is) (with_checksum (codes "xs-log") (behind_name c.args.number)))

pub returns-in_default-clause-err : goal.returns-in_default-clause-err
returns-in_default-clause-err c = inr (not_sealed c.args.number c.args.sent.now c.in-Ok.words.items c.as_slice.result.now c.in-Ok.ensures.ok c.as_slice.ensures.value c.in_default.ensures)

pub returns-then-not-is_text-clause-err : goal.returns-then-not-is_text-clause-err
returns-then-not-is_text-clause-err c = inr (λ is.
    let parts = header_parts c.args.number c.args.sent.now c.in-Ok.words.items c.as_slice.result.now c.in-Some.rest.now c.in-Some.name.now c.in-Ok.ensures.ok c.as_slice.ensures.value c.in-Some.ensures is in
    c.is_text.ensures.no c.if-not-is_text.true (c.as_slice-2.ensures ∙ parts.0))

pub returns-clause-err : goal.returns-clause-err
returns-clause-err c =
    err_left IsWant c.check_numbers.result (c.in-Some.rest.now ≢ behind_name c.args.number) (c.args.sent.now ≢ header_words c.args.number) c.check_numbers.ensures.err (λ other is.
    let parts = header_parts c.args.number c.args.sent.now c.in-Ok.words.items c.as_slice.result.now c.in-Some.rest.now c.in-Some.name.now c.in-Ok.ensures.ok c.as_slice.ensures.value c.in-Some.ensures is in
    other parts.1)
