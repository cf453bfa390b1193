use Rattle.std.proofs.Common.{◌≡◌, ◌≤◌, ◌+◌, ◌++◌, vec_capacity, vec_len}
use Rattle.xs_maps.proofs.few.tree_of.Given as goal

-- the entries of both are all entries, and the vector has room for all
abbrev pub invariant-loop : goal.invariant-loop
invariant-loop g l = record {
  all : l.few.items ++ l.tree.entries ≡ l.fn.few.items;
  left : vec_len l.few + l.counter ≡ vec_len l.fn.few;
  end : l.end ≡ vec_len l.fn.few;
  room : vec_len l.fn.few ≤ vec_capacity l.few;
}
