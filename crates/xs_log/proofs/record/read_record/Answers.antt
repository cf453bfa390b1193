use Rattle.std.proofs.Common.{◌≡◌, [], length, decimal, sym, ap, ◌∙◌}
use Rattle.std.proofs.lemmas.Bool.{eqb-true}
use Rattle.std.specs.Prelude.{Err}
use Rattle.std.proofs.lemmas.List.{nil_from_length}
use Rattle.xs_command.specs.Read.{command_of_words}
use Rattle.xs_log.specs.declared.record.RecordFault.TheVariants.{Damaged}
use Rattle.xs_tape.specs.Records.{with_checksum}
use Rattle.xs_log.proofs.PlainWords.{not_checked, parts_are, no_command}
use Rattle.xs_log.proofs.record.read_record.Goals as goal

pub returns-in-Err-clause-damaged : goal.returns-in-Err-clause-damaged
returns-in-Err-clause-damaged c = λ e event is.
    let same : c.in-Err.fault ≡ Damaged = cc (e) in
    c.record_of.ensures.damaged (c.in-Err.is ∙ ap (λ f. Err f) same) (with_checksum (decimal event.0) is.plain) is.stands

pub returns-in_default-clause-damaged : goal.returns-in_default-clause-damaged
returns-in_default-clause-damaged c = λ e event is.
    c.in_default.ensures (decimal event.0) is.plain (c.as_slice.ensures.value ∙ not_checked c.args.sent.now c.in-Ok.words.items is.plain (decimal event.0) c.in-Ok.ensures.ok is.stands)

pub returns-in_default-moment_of-clause-damaged : goal.returns-in_default-moment_of-clause-damaged
returns-in_default-moment_of-clause-damaged c = λ e event is.
    let parts = parts_are c.args.sent.now c.in-Ok.words.items c.as_slice.result.now c.in-Some.rest.now c.in-Some.first.now event c.in-Ok.ensures.ok c.as_slice.ensures.value c.in-Some.ensures is in
    c.in_default-moment_of.ensures event.0 is.small parts.0

pub returns-then-is_empty-clause-damaged : goal.returns-then-is_empty-clause-damaged
returns-then-is_empty-clause-damaged c = λ e event is.
    let parts = parts_are c.args.sent.now c.in-Ok.words.items c.as_slice.result.now c.in-Some.rest.now c.in-Some.first.now event c.in-Ok.ensures.ok c.as_slice.ensures.value c.in-Some.ensures is in
    let none : c.in-Some.rest.now ≡ [] = nil_from_length c.in-Some.rest.now (eqb-true (length c.in-Some.rest.now) 0 (sym c.is_empty.ensures ∙ c.if-is_empty.true)) in
    no_command event (ap command_of_words (sym none) ∙ parts.1)

pub returns-in-Err-Said-clause-damaged : goal.returns-in-Err-Said-clause-damaged
returns-in-Err-Said-clause-damaged c = λ e event is.
    let parts = parts_are c.args.sent.now c.in-Ok.words.items c.as_slice.result.now c.in-Some.rest.now c.in-Some.first.now event c.in-Ok.ensures.ok c.as_slice.ensures.value c.in-Some.ensures is in
    let said = rw c.in-Err-Said.field-0-is at c.in-Err-Said.ensures.exact in
    absurd (cc (said, parts.1))
