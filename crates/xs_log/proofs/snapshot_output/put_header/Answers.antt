use Rattle.std.proofs.Common.{sym, ◌∙◌, subst, arith}
use Rattle.xs_log.specs.SnapshotPieces.{AreShort}
use Rattle.xs_log.proofs.ShortWords.{header_short}
use Rattle.xs_log.proofs.SnapshotOutput.{header_put}
use Rattle.xs_log.proofs.snapshot_output.put_header.Goals as goal

pub returns-clause-has : goal.returns-clause-has
returns-clause-has g c = λ closed has.
    header_put c.put_record.result c.args.number c.args.moment closed c.args.writer.now c.put_record.new.writer c.as_slice.result.now (omega arith) c.in-Ok.ensures.fits (c.as_slice.ensures.value ∙ c.in-Ok.ensures.values)
    c.put_record.ensures.puts c.put_record.ensures.spelled has

pub returns-clause-short : goal.returns-clause-short
returns-clause-short g c = λ e.
    c.put_record.ensures.long e (subst AreShort (sym (c.as_slice.ensures.value ∙ c.in-Ok.ensures.values)) (header_short c.args.number c.args.moment (omega arith) c.in-Ok.ensures.fits))
