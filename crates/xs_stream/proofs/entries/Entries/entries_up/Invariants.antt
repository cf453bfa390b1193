use Rattle.std.proofs.Common.{◌≡◌, ◌≤◌, ◌++◌, length, take}
use Rattle.xs_stream.specs.Blocks.{contents, entries_of_blocks, all_of, AreFiled}
use Rattle.xs_stream.proofs.WithinBlocks.{within}
use Rattle.xs_stream.proofs.entries.Entries.entries_up.Given as goal

-- the entries so far and those to come are those of the range
abbrev pub invariant-loop-under : goal.invariant-loop-under
invariant-loop-under l = record {
  all : take l.most (l.shown.items ++ within l.fn.range (entries_of_blocks (contents l.under-iterator) ++ l.self.newest.entries)) ≡ take l.most (within l.fn.range (all_of l.self));
  few : length l.shown.items ≤ l.most;
  filed : AreFiled (contents l.under-iterator) l.self.newest.entries;
}
