use Rattle.xs_tape.proofs.Runs.{IsPassed}
use Rattle.xs_tape.proofs.log_writer.LogWriter.put_bytes.Given as goal

abbrev pub invariant-loop-at : goal.invariant-loop-at
invariant-loop-at g l = IsPassed l.fn.self l.self l.word l.done l.at
