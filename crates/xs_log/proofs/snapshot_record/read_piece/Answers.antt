use Rattle.std.proofs.Common.{◌≡◌, ◌∷◌, sym, ap, ◌∙◌}
use Rattle.std.specs.Option.{option_map}
use Rattle.xs_replay.specs.PieceReading.{piece_of_words}
use Rattle.std.specs.Prelude.{Err}
use Rattle.xs_log.specs.PieceOf.{piece_of}
use Rattle.xs_log.specs.declared.record.RecordFault.TheVariants.{Damaged}
use Rattle.xs_log.proofs.PieceRecords.{size_missing, sum_missing, other_count, no_piece, piece_read}
use Rattle.xs_log.proofs.snapshot_record.read_piece.Goals as goal

pub returns-in-Err-clause-damaged : goal.returns-in-Err-clause-damaged
returns-in-Err-clause-damaged c = λ e may.
    let same : c.in-Err.fault ≡ Damaged = cc (e) in
    size_missing c.args.sent.now c.args.count (c.record_of.ensures.damaged (c.in-Err.is ∙ ap (λ f. Err f) same)) may

pub returns-in_default-clause-damaged : goal.returns-in_default-clause-damaged
returns-in_default-clause-damaged c = λ e may. sum_missing c.args.sent.now c.in-Ok.words.items c.as_slice.result.now c.args.count c.in-Ok.ensures.ok c.as_slice.ensures.value c.in_default.ensures may

pub returns-then-is_text-clause-damaged : goal.returns-then-is_text-clause-damaged
returns-then-is_text-clause-damaged c = λ e may.
    other_count c.args.sent.now c.in-Ok.words.items c.as_slice.result.now c.in-Some.values.now c.in-Some.kind.now c.args.count c.in-Ok.ensures.ok c.as_slice.ensures.value c.in-Some.ensures
    (sym c.as_slice-2.ensures ∙ c.is_text.ensures.yes c.if-is_text.true) (c.says_count.ensures.no c.if-says_count.false) may

pub returns-in-Ok-Some-clause-ok : goal.returns-in-Ok-Some-clause-ok
returns-in-Ok-Some-clause-ok c =
    piece_read c.args.sent.now c.in-Ok.words.items c.as_slice.result.now c.in-Some.values.now c.in-Some.kind.now (piece_of c.in-Ok-Some.piece) c.in-Ok.ensures.ok c.as_slice.ensures.value c.in-Some.ensures
    (ap (option_map piece_of) (sym c.in-Ok-Some.field-0-is) ∙ c.in-Ok-Some.ensures ∙ ap (λ k. piece_of_words (k ∷ c.in-Some.values.now)) c.as_slice-3.ensures)

pub returns-in-Ok-None-clause-damaged : goal.returns-in-Ok-None-clause-damaged
returns-in-Ok-None-clause-damaged c = λ e may.
    no_piece c.args.sent.now c.in-Ok.words.items c.as_slice.result.now c.in-Some.values.now c.in-Some.kind.now c.args.count c.in-Ok.ensures.ok c.as_slice.ensures.value c.in-Some.ensures
    (λ is. c.is_text.ensures.no c.if-is_text.false (c.as_slice-2.ensures ∙ is))
    (ap (option_map piece_of) (sym c.in-Ok-None.field-0-is) ∙ c.in-Ok-None.ensures ∙ ap (λ k. piece_of_words (k ∷ c.in-Some.values.now)) c.as_slice-3.ensures) may
