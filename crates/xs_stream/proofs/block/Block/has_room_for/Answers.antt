use Rattle.std.proofs.Common.{arith}
use Rattle.xs_stream.proofs.PackedBlocks.{length-block_entries}
use Rattle.xs_stream.proofs.block.Block.has_room_for.Goals as goal

pub returns : goal.returns
returns c _ =
    let inside = c.self.inside in
    let other = c.other.inside in
    rw (← c.self.view_is, ← c.other.view_is)
    (omega (arith, length-block_entries inside.base inside.count inside.start inside.bytes.items, length-block_entries other.base other.count other.start other.bytes.items, c.saturating_add.ensures, c.if-saturating_add-gt-MOST_ENTRIES.false))
