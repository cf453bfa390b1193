use Rattle.std.proofs.Common.{◌-◌, ◌≡◌, ◌+◌, ◌≤◌, ◌++◌, take, drop, vec_len}
use Rattle.std.specs.List.{remove_range}
use Rattle.xs_stream.proofs.packed.gap.close_gap.Given as goal

-- the gap is before what has not moved
abbrev pub invariant-loop-at : goal.invariant-loop-at
invariant-loop-at l = record {
  forward : l.from ≤ l.at;
  not_past : l.at ≤ l.left;
  same_length : vec_len l.bytes ≡ vec_len l.initial.bytes;
  around : take l.at l.bytes.items ++ drop (l.at + l.gap) l.bytes.items ≡ remove_range l.initial.bytes.items l.from l.to;
}

abbrev pub decreases-loop-at : goal.decreases-loop-at
decreases-loop-at l = l.left - l.at
