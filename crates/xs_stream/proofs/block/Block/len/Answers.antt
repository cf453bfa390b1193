use Rattle.std.proofs.Common.{sym}
use Rattle.xs_stream.proofs.PackedBlocks.{length-block_entries}
use Rattle.xs_stream.proofs.block.Block.len.Goals as goal

pub returns : goal.returns
returns c = rw (← c.self.view_is) (sym (length-block_entries _ _ _ _))
