use Rattle.std.proofs.Common.{ap, ◌∙◌}
use Rattle.xs_log.specs.declared.snapshot_output.WriteFault.TheVariants.{TooLong}
use Rattle.xs_replay.specs.Pieces.{of_consumer}
use Rattle.xs_snapshot.specs.Writing.{pieces_of_consumers}
use Rattle.xs_snapshot.proofs.Putting.{consumer_next, at_start, one_further, next_is_short, given_on}
use Rattle.xs_snapshot.proofs.writing.put_consumers.Goals as goal

pub loop-name-init : goal.loop-name-init
loop-name-init g c =
    at_start c.args.writer.now (pieces_of_consumers c.args.group.now.consumers.entries) (pieces_of_consumers c.into_iter-name-iterator.result) c.requires
    (ap pieces_of_consumers (c.into_iter-name-iterator.ensures.into_iter_gives ∙ c.iter_consumers-name-items.ensures))

pub loop-name-preserved : goal.loop-name-preserved
loop-name-preserved g c =
    let next = consumer_next c.loop-name.name-iterator c.next.new.self c.in-Some.name.now c.as_slice.result.now c.in-Some.seen c.in-Some.ensures.steps c.as_slice.ensures in
    one_further c.args.writer.now c.loop-name.writer c.put_consumer.new.self (pieces_of_consumers c.args.group.now.consumers.entries) (of_consumer c.as_slice.result.now c.in-Some.seen)
    (pieces_of_consumers c.next.new.self) (pieces_of_consumers c.loop-name.name-iterator) c.loop-name.invariant next
    c.in_ok-put_consumer.ensures.has c.in_ok-put_consumer.ensures.count c.in_ok-put_consumer.ensures.sound

pub returns-in_err-put_consumer-clause-long : goal.returns-in_err-put_consumer-clause-long
returns-in_err-put_consumer-clause-long g c = λ e can.
    let next = consumer_next c.loop-name.name-iterator c.next.new.self c.in-Some.name.now c.as_slice.result.now c.in-Some.seen c.in-Some.ensures.steps c.as_slice.ensures in
    let short = next_is_short c.args.writer.now c.loop-name.writer (pieces_of_consumers c.args.group.now.consumers.entries) (of_consumer c.as_slice.result.now c.in-Some.seen)
    (pieces_of_consumers c.next.new.self) (pieces_of_consumers c.loop-name.name-iterator) c.loop-name.invariant next can in
    c.put_consumer.ensures.long (given_on c.put_consumer.result c.from_residual.result c.in_err-put_consumer.field-0.0 TooLong c.in_err-put_consumer.was c.from_residual.ensures.1 e) short.0 short.1
