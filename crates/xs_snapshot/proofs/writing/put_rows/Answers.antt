use Rattle.std.proofs.Common.{ap, ◌∙◌}
use Rattle.xs_log.specs.declared.snapshot_output.WriteFault.TheVariants.{TooLong}
use Rattle.xs_replay.specs.Pieces.{of_row}
use Rattle.xs_snapshot.specs.Writing.{pieces_of_rows}
use Rattle.xs_snapshot.proofs.Putting.{row_next, at_start, one_further, next_is_short, given_on}
use Rattle.xs_snapshot.proofs.writing.put_rows.Goals as goal

pub loop-row-init : goal.loop-row-init
loop-row-init g c =
    at_start c.args.writer.now (pieces_of_rows c.args.group.now.rows.entries) (pieces_of_rows c.into_iter-row-iterator.result) c.requires
    (ap pieces_of_rows (c.into_iter-row-iterator.ensures.into_iter_gives ∙ c.iter_rows-row-items.ensures.rest))

pub loop-row-preserved : goal.loop-row-preserved
loop-row-preserved g c =
    let touch = c.touch-touch.result in
    let next = row_next c.loop-row.row-iterator c.next.new.self c.in-Some.row c.id.result c.as_slice.result.now touch c.in-Some.ensures.steps c.id.ensures (c.as_slice.ensures ∙ c.consumer.ensures) c.touch-touch.ensures in
    one_further c.args.writer.now c.loop-row.writer c.put_row.new.self (pieces_of_rows c.args.group.now.rows.entries) (of_row c.id.result (record { consumer = c.as_slice.result.now; time = touch.time; count = touch.count }))
    (pieces_of_rows c.next.new.self) (pieces_of_rows c.loop-row.row-iterator) c.loop-row.invariant next
    c.in_ok-put_row.ensures.has c.in_ok-put_row.ensures.count c.in_ok-put_row.ensures.sound

pub returns-in_err-put_row-clause-long : goal.returns-in_err-put_row-clause-long
returns-in_err-put_row-clause-long g c = λ e can.
    let touch = c.touch-touch.result in
    let next = row_next c.loop-row.row-iterator c.next.new.self c.in-Some.row c.id.result c.as_slice.result.now touch c.in-Some.ensures.steps c.id.ensures (c.as_slice.ensures ∙ c.consumer.ensures) c.touch-touch.ensures in
    let short = next_is_short c.args.writer.now c.loop-row.writer (pieces_of_rows c.args.group.now.rows.entries) (of_row c.id.result (record { consumer = c.as_slice.result.now; time = touch.time; count = touch.count }))
    (pieces_of_rows c.next.new.self) (pieces_of_rows c.loop-row.row-iterator) c.loop-row.invariant next can in
    c.put_row.ensures.long (given_on c.put_row.result c.from_residual.result c.in_err-put_row.field-0.0 TooLong c.in_err-put_row.was c.from_residual.ensures.1 e) short.0 short.1
