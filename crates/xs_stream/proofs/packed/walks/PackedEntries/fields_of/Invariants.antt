use Rattle.std.proofs.Common.{◌≡◌, ◌-◌}
use Rattle.xs_stream.specs.StreamContent.{fields_at}
use Rattle.xs_stream.specs.PackedText.{first_text}
use Rattle.xs_stream.specs.Packed.{packed_entries}
use Rattle.xs_stream.specs.PassedEntries.{unpacked_entries}
use Rattle.xs_stream.proofs.packed.walks.PackedEntries.fields_of.Given as goal

-- the entry that is asked for is among those left
abbrev pub invariant-loop : goal.invariant-loop
invariant-loop l = fields_at (unpacked_entries l.self) l.id ≡ fields_at (packed_entries l.self.base (first_text l.self.bytes.now) (l.self.count - l.counter) l.rest) l.id
