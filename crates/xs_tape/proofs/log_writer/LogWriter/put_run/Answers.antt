use Rattle.xs_tape.proofs.Zeros.{plain_no_zero}
use Rattle.xs_tape.proofs.log_writer.LogWriter.put_run.Goals as goal

pub put-requires-clause-bytes : goal.put-requires-clause-bytes
put-requires-clause-bytes g c = plain_no_zero c.args.run.now c.requires.plain
