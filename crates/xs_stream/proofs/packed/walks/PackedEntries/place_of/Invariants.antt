use Rattle.std.proofs.Common.{◌≡◌, ◌≤◌, ◌-◌, ◌++◌, take, drop, length}
use Rattle.std.specs.Map.{remove_entry}
use Rattle.xs_stream.specs.Id.{is_same_id}
use Rattle.xs_stream.specs.StreamContent.{fields_at}
use Rattle.xs_stream.specs.PackedText.{first_text}
use Rattle.xs_stream.specs.Packed.{packed_entries, after_entries}
use Rattle.xs_stream.specs.PassedEntries.{unpacked_entries}
use Rattle.xs_stream.proofs.packed.walks.PackedEntries.place_of.Given as goal

-- the entries that were passed have other ids
abbrev pub invariant-loop-index : goal.invariant-loop-index
invariant-loop-index l = record {
  rest : l.rest ≡ after_entries l.index (drop l.self.start l.self.bytes.now);
  lookup : fields_at (unpacked_entries l.self) l.id ≡ fields_at (packed_entries l.self.base (first_text l.self.bytes.now) (l.self.count - l.index) l.rest) l.id;
  removed : remove_entry (is_same_id l.id) (unpacked_entries l.self) ≡ take l.index (unpacked_entries l.self) ++ remove_entry (is_same_id l.id) (packed_entries l.self.base (first_text l.self.bytes.now) (l.self.count - l.index) l.rest);
  short : length l.rest ≤ length l.self.bytes.now;
}
