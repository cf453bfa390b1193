use Rattle.std.proofs.Common.{◌-◌, ◌≡◌, ◌+◌, ◌≤◌, ◌++◌, take, drop, vec_len}
use Rattle.xs_stream.proofs.packed.gap.raise.Given as goal

-- what is before the end has not moved, and the gap follows it
abbrev pub invariant-loop-end : goal.invariant-loop-end
invariant-loop-end l = record {
  begin : l.start ≤ l.end;
  not_past : l.end ≤ l.from;
  same_length : vec_len l.bytes ≡ vec_len l.initial.bytes;
  before : take l.end l.bytes.items ≡ take l.end l.initial.bytes.items;
  behind : drop (l.end + l.gap) l.bytes.items ≡ take (l.from - l.end) (drop l.end l.initial.bytes.items) ++ drop l.to l.initial.bytes.items;
}

abbrev pub decreases-loop-end : goal.decreases-loop-end
decreases-loop-end l = l.end
