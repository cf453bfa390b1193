use Rattle.std.proofs.Common.{ap, ◌∙◌}
use Rattle.xs_log.specs.declared.snapshot_output.WriteFault.TheVariants.{TooLong}
use Rattle.xs_replay.specs.Pieces.{of_entry}
use Rattle.xs_snapshot.specs.Writing.{pieces_of_entries}
use Rattle.xs_snapshot.proofs.Putting.{entry_next, at_start, one_further, next_is_short, given_on}
use Rattle.xs_stream.specs.StreamContent.{state_of}
use Rattle.xs_snapshot.proofs.KeptRestorable.{stream-kept}
use Rattle.xs_snapshot.proofs.writing.put_entries.Goals as goal

pub loop-entry-init : goal.loop-entry-init
loop-entry-init g c =
    at_start c.args.writer.now (pieces_of_entries c.args.stream.now.entries) (pieces_of_entries c.into_iter-entry-iterator.result) c.requires
    (ap pieces_of_entries (c.into_iter-entry-iterator.ensures.into_iter_gives ∙ c.iter-entry-items.ensures.rest))

pub loop-entry-preserved : goal.loop-entry-preserved
loop-entry-preserved g c =
    let next = entry_next c.loop-entry.entry-iterator c.next.new.self c.in-Some.entry c.id.result c.fields.result c.in-Some.ensures.steps c.id.ensures c.fields.ensures in
    one_further c.args.writer.now c.loop-entry.writer c.put_entry.new.self (pieces_of_entries c.args.stream.now.entries) (of_entry c.id.result c.fields.result)
    (pieces_of_entries c.next.new.self) (pieces_of_entries c.loop-entry.entry-iterator) c.loop-entry.invariant next
    c.in_ok-put_entry.ensures.has c.in_ok-put_entry.ensures.count c.in_ok-put_entry.ensures.sound

pub returns-in_err-put_entry-clause-long : goal.returns-in_err-put_entry-clause-long
returns-in_err-put_entry-clause-long g c = λ e can.
    let next = entry_next c.loop-entry.entry-iterator c.next.new.self c.in-Some.entry c.id.result c.fields.result c.in-Some.ensures.steps c.id.ensures c.fields.ensures in
    let short = next_is_short c.args.writer.now c.loop-entry.writer (pieces_of_entries c.args.stream.now.entries) (of_entry c.id.result c.fields.result)
    (pieces_of_entries c.next.new.self) (pieces_of_entries c.loop-entry.entry-iterator) c.loop-entry.invariant next can in
    c.put_entry.ensures.long (given_on c.put_entry.result c.from_residual.result c.in_err-put_entry.field-0.0 TooLong c.in_err-put_entry.was c.from_residual.ensures.1 e) short.0 short.1

pub returns-clause-restorable : goal.returns-clause-restorable
returns-clause-restorable g c = stream-kept (state_of c.args.stream.now) c.iter-entry-items.ensures.valid c.iter-entry-items.ensures.few
