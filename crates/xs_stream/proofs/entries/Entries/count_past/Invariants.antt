use Rattle.std.proofs.Common.{◌≡◌, ◌+◌, ◌<◌, length}
use Rattle.xs_stream.specs.StreamContent.{ids_of, count_above}
use Rattle.xs_stream.specs.Blocks.{all_of}
use Rattle.xs_stream.specs.CountState.{total_of}
use Rattle.xs_stream.proofs.entries.Entries.count_past.Given as goal

-- both sides have all entries, and those of the block that has some of each are separated
abbrev pub invariant-loop-below : goal.invariant-loop-below
invariant-loop-below l =
    (total_of l.above + length l.self.newest.entries ≡ l.beside + count_above l.fn.cursor (ids_of (all_of l.self)))
    × ((total_of l.below + l.beside) + count_above l.fn.cursor (ids_of (all_of l.self)) ≡ l.self.len)
    × (0 < l.up)

abbrev pub decreases-loop-below : goal.decreases-loop-below
decreases-loop-below l = length l.above.left
