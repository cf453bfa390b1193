use Rattle.xs_log.proofs.SnapshotOutput.{empty_has}
use Rattle.xs_log.proofs.snapshot_writer.SnapshotWriter.begin.Goals as goal

pub returns-clause-has : goal.returns-clause-has
returns-clause-has g c = λ closed is.
    c.in-Ok-put_header.ensures.has closed (empty_has closed c.in-Ok.writer (g.T.Tape.broken c.args.tape) (g.T.Tape.holds c.args.tape) c.in-Ok.ensures c.requires is)
