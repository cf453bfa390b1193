use Rattle.std.proofs.Common.{sym, ◌∙◌, subst, arith}
use Rattle.xs_tape.specs.Crash.{HasNoZero}
use Rattle.xs_tape.proofs.Zeros.{decimal-no-zero}
use Rattle.xs_tape.proofs.log_writer.LogWriter.gather_line.Goals as goal

pub gather-requires-clause-bytes : goal.gather-requires-clause-bytes
gather-requires-clause-bytes g c =
    let text = c.as_bytes.ensures.value ∙ c.format.ensures.text in
    subst HasNoZero (sym text) (decimal-no-zero c.args.number (omega (arith, c.ranges.number)))
