use Rattle.std.proofs.Common.{arith}
use Rattle.xs_log.proofs.SnapshotOutput.{piece_put}
use Rattle.xs_log.proofs.snapshot_output.put_piece.Goals as goal

pub returns-clause-has : goal.returns-clause-has
returns-clause-has g c = λ number closed moment pieces piece has kind values fits.
    piece_put number closed moment pieces piece c.args.writer.now c.put_record.new.writer c.keep_some.new.writer c.args.count.now c.in-Some.more c.args.kind.now c.args.values.now has kind values fits c.in-Ok.ensures.puts c.in-Ok.ensures.spelled
    c.in-Ok-keep_some.ensures.has (omega (arith, c.in-Some.ensures.1))
