use Rattle.std.proofs.Common.{sym, subst}
use Rattle.xs_log.specs.declared.snapshot_output.WriteFault.TheVariants.{TooLong}
use Rattle.xs_replay.specs.Pieces.{pieces_of}
use Rattle.xs_snapshot.specs.Writing.{CanBePut, KeepsSnapshot}
use Rattle.xs_snapshot.proofs.Putting.{given_on}
use Rattle.xs_snapshot.proofs.writing.write_snapshot.Goals as goal

pub returns-clause-keeps : goal.returns-clause-keeps
returns-clause-keeps g c = λ closed is.
    subst (λ holds. KeepsSnapshot c.args.number closed holds (record { content = c.args.keyspace.now; moment = c.args.moment })) (sym c.into_tape.ensures.holds)
    (c.in_ok-complete_snapshot.ensures.keeps c.args.number closed c.args.moment (c.in_ok-writer.ensures.has closed is))

pub returns-in_err-complete_snapshot-clause-long : goal.returns-in_err-complete_snapshot-clause-long
returns-in_err-complete_snapshot-clause-long g c = λ e can.
    c.complete_snapshot.ensures.long
    (given_on c.complete_snapshot.result c.from_residual-in_err-complete_snapshot.result c.in_err-complete_snapshot.field-0.0 TooLong c.in_err-complete_snapshot.was c.from_residual-in_err-complete_snapshot.ensures.1 e)
    (subst (λ count. CanBePut count (pieces_of c.args.keyspace.now)) (sym c.in_ok-writer.ensures.none) can)
