use Rattle.std.proofs.Common.{arith}
use Rattle.xs_stream.proofs.PackedBlocks.{length-block_entries}
use Rattle.xs_stream.proofs.block.Block.has_room.Goals as goal

pub returns-clause-room : goal.returns-clause-room
returns-clause-room c _ = rw (← c.self.view_is) (omega (arith, length-block_entries c.self.inside.base c.self.inside.count c.self.inside.start c.self.inside.bytes.items, c.if-self-ge-MOST_ENTRIES.false))
