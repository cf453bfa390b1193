use Rattle.std.proofs.Common.{◌≡◌, ◌+◌, length}
use Rattle.xs_stream.specs.Blocks.{contents, entries_of_blocks, all_of}
use Rattle.xs_stream.proofs.CountedBelow.{below}
use Rattle.xs_stream.proofs.entries.Entries.count_below.Given as goal

-- the count and all entries to come
abbrev pub invariant-loop-under : goal.invariant-loop-under
invariant-loop-under l = l.count + length (entries_of_blocks (contents l._under-iterator)) ≡ length (below l.fn.low (all_of l.self))
