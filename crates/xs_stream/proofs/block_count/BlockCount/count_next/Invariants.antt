use Rattle.std.proofs.Common.{◌≡◌, ◌+◌, length}
use Rattle.xs_stream.specs.Blocks.{contents, entries_of_blocks}
use Rattle.xs_stream.specs.CountState.{total_of}
use Rattle.xs_stream.proofs.block_count.BlockCount.count_next.Given as goal

abbrev pub invariant-loop-block : goal.invariant-loop-block
invariant-loop-block l =
    (l.self-inside.count + length (entries_of_blocks (contents l.self-inside.left)) ≡ total_of l.fn.self)
    × (length l.self-inside.left + l._block ≡ length l.fn.self.left)
