use Rattle.std.proofs.Common.{◌≡◌, ◌≤◌, ◌++◌, length, take, reverse}
use Rattle.xs_stream.specs.Blocks.{contents, entries_of_blocks, all_of}
use Rattle.xs_stream.proofs.WithinBlocks.{within}
use Rattle.xs_stream.proofs.entries.Entries.entries_down.Given as goal

-- the entries so far and those to come are those of the range, from its end
abbrev pub invariant-loop-under : goal.invariant-loop-under
invariant-loop-under l = record {
  all : take l.most (l.shown.items ++ reverse (within l.fn.range (entries_of_blocks (contents l._under-iterator.iter)))) ≡ take l.most (reverse (within l.fn.range (all_of l.self)));
  few : length l.shown.items ≤ l.most;
}
