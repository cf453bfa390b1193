use Rattle.std.proofs.Common.{◌≡◌, ◌≢◌, ℕ, Option, inr, codes, ap, ◌∙◌}
use Rattle.std.specs.Prelude.{Err}
use Rattle.xs_tape.specs.Records.{with_checksum}
use Rattle.xs_replay.specs.Snapshot.{header_values, snapshot_header}
use Rattle.xs_log.specs.SnapshotFault.{HasRunOut}
use Rattle.xs_log.specs.SnapshotPieces.{MomentFits}
use Rattle.xs_log.proofs.PlainWords.{not_checked, record_parts, parts_record}
use Rattle.xs_log.proofs.Results.{if_ok_as, err_left}
use Rattle.xs_log.proofs.snapshot_header.read_header.Goals as goal

pub returns-in-Err-Damaged-clause-err : goal.returns-in-Err-Damaged-clause-err
returns-in-Err-Damaged-clause-err c = inr (λ moment fits. c.record_of.ensures.damaged (c.in-Err-Damaged.is ∙ ap (λ f. Err f) c.in-Err-Damaged.field-0-is) (with_checksum (codes "xs-snapshot") (header_values c.args.number moment)))

pub returns-in_default-clause-err : goal.returns-in_default-clause-err
returns-in_default-clause-err c = inr (λ moment fits is.
    let values = header_values c.args.number moment in
    c.in_default.ensures (codes "xs-snapshot") values (c.as_slice.ensures.value ∙ not_checked c.args.sent.now c.in-Ok.words.items values (codes "xs-snapshot") c.in-Ok.ensures.ok is))

pub returns-then-not-is_text-clause-err : goal.returns-then-not-is_text-clause-err
returns-then-not-is_text-clause-err c = inr (λ moment fits is.
    let parts = record_parts c.args.sent.now c.in-Ok.words.items c.as_slice.result.now c.in-Some.rest.now (header_values c.args.number moment) c.in-Some.name.now (codes "xs-snapshot") c.in-Ok.ensures.ok c.as_slice.ensures.value c.in-Some.ensures is in
    c.is_text.ensures.no c.if-not-is_text.true (c.as_slice-2.ensures ∙ parts.0))

pub returns-clause-ok : goal.returns-clause-ok
returns-clause-ok c =
    let name = c.is_text.ensures.yes c.if-not-is_text.false in
    if_ok_as c.moment_behind.result _ _ (λ moment is. (
      parts_record c.args.sent.now c.in-Ok.words.items c.as_slice.result.now c.in-Some.rest.now (header_values c.args.number moment) c.in-Some.name.now (codes "xs-snapshot") c.in-Ok.ensures.ok c.as_slice.ensures.value c.in-Some.ensures
          (Rattle.std.proofs.Common.sym c.as_slice-2.ensures ∙ name) is.0,
      is.1,
    )) c.moment_behind.ensures.ok

pub returns-clause-err : goal.returns-clause-err
returns-clause-err c =
    let values = header_values c.args.number in
    err_left HasRunOut c.moment_behind.result ((moment : Option ℕ) → MomentFits moment → c.in-Some.rest.now ≢ values moment) ((moment : Option ℕ) → MomentFits moment → c.args.sent.now ≢ snapshot_header c.args.number moment)
    c.moment_behind.ensures.err (λ other moment fits is.
    let parts = record_parts c.args.sent.now c.in-Ok.words.items c.as_slice.result.now c.in-Some.rest.now (values moment) c.in-Some.name.now (codes "xs-snapshot") c.in-Ok.ensures.ok c.as_slice.ensures.value c.in-Some.ensures is in
    other moment fits parts.1)
