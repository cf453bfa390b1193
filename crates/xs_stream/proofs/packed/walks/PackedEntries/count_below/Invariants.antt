use Rattle.std.proofs.Common.{◌≡◌, ◌≤◌, ◌+◌, ◌-◌, filter, length}
use Rattle.xs_stream.specs.Id.{is_below}
use Rattle.xs_stream.specs.PackedText.{first_text}
use Rattle.xs_stream.specs.Packed.{packed_entries}
use Rattle.xs_stream.specs.PassedEntries.{unpacked_entries}
use Rattle.xs_stream.proofs.packed.walks.PackedEntries.count_below.Given as goal

-- those so far and those to come
abbrev pub invariant-loop : goal.invariant-loop
invariant-loop l = record {
  all : l.below + length (filter (λ e. is_below e.0 l.low) (packed_entries l.self.base (first_text l.self.bytes.now) (l.self.count - l.counter) l.rest)) ≡ length (filter (λ e. is_below e.0 l.low) (unpacked_entries l.self));
  few : l.below ≤ l.counter;
}
