-- The entries of a walk, and those that it skips at once, because they are below its id.
use Rattle.std.specs.Prelude.{◌≡◌, ℕ, zero, suc, true, List, [], ◌∷◌}
use Rattle.xs_stream.specs.declared.id.Id.{Id}
use Rattle.xs_stream.specs.declared.field.Field.{Field}
use Rattle.xs_stream.specs.declared.packed.walks.PackedEntries.{PackedEntries}
use Rattle.xs_stream.specs.Id.{is_below}
use Rattle.xs_stream.specs.Packed.{block_entries, entry_id, after_entry}

-- packed entries as a list
abbrev pub unpacked_entries : PackedEntries → List (Id × List Field)
unpacked_entries packed = block_entries packed.base packed.count packed.start packed.bytes.now

-- the ids of this many entries
abbrev pub packed_ids : ℕ → ℕ → List ℕ → List Id
packed_ids base zero bytes = []
packed_ids base (suc count) bytes = entry_id base bytes ∷ packed_ids base count (after_entry bytes)

-- each of these is below x
abbrev pub AllBelow : Id → List Id → Type 0
AllBelow x [] = Unit {0}
AllBelow x (y ∷ ys) = (is_below y x ≡ true) × AllBelow x ys
