use Rattle.std.proofs.Common.{ap, arith, length}
use Rattle.xs_stream.proofs.PackedBlocks.{length-after_text}
use Rattle.xs_stream.proofs.block.names_end.Goals as goal

pub overflow_sub-result : goal.overflow_sub-result
overflow_sub-result c = omega (arith, ap length c.read_text.ensures.rest, length-after_text c.args.bytes.now)
