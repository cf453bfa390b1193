-- How a stream stores its entries: in blocks, each filed under an id, and after them the newest ones.
use Rattle.std.specs.Prelude.{◌≡◌, ℕ, ◌+◌, ◌<◌, ◌≤◌, ◌^◌, not, List, [], ◌∷◌, ◌++◌, length, Option, Some, None}
use Rattle.std.specs.List.{flat_map}
use Rattle.std.specs.Map.{keys_of, lookup, lookup_key, set_value}
use Rattle.std.specs.BTreeMap.Range.{entries_between}
use Rattle.std.specs.declared.ops.Bound.{Bound}
use Rattle.std.specs.declared.ops.Bound.TheVariants.{Included, Unbounded}
use Rattle.xs_stream.specs.declared.id.Id.{Id}
use Rattle.xs_stream.specs.declared.field.Field.{Field}
use Rattle.xs_stream.specs.declared.entries.Entries.{Entries}
use Rattle.xs_stream.specs.Id.{id_cmp, is_below, is_same_id}
use Rattle.xs_stream.specs.StreamContent.{ids_of, AllAbove, AllUpTo}
use Rattle.xs_stream.specs.ConsistentStream.{AreValid, rank_of}
use Rattle.xs_stream.specs.BlockState.{BlockState}

-- the entries of blocks, one block after the other
abbrev pub entries_of_blocks : List (Id × List (Id × List Field)) → List (Id × List Field)
entries_of_blocks blocks = flat_map (λ b. b.1) blocks

-- the entries that each block has
abbrev pub contents : List (Id × BlockState) → List (Id × List (Id × List Field))
contents [] = []
contents (b ∷ bs) = (b.0, b.1.entries) ∷ contents bs

-- all entries, in their order
abbrev pub all_of : Entries → List (Id × List Field)
all_of entries = entries_of_blocks (contents entries.older.entries) ++ entries.newest.entries

-- the entries that aren't in blocks filed below an id
abbrev pub entries_from : Id → Entries → List (Id × List Field)
entries_from low entries = entries_of_blocks (entries_between id_cmp (Included low) Unbounded (contents entries.older.entries)) ++ entries.newest.entries

-- a block has entries, none of them above the id under which it is filed, and all later ones are above that id
pub record IsFiled (block : Id × List (Id × List Field)) (later : List (Id × List Field)) : Type 0 where
  pub has_entries : 0 < length block.1
  pub up_to_id : AllUpTo block.0 (ids_of block.1)
  pub later_above : AllAbove block.0 (ids_of later)

abbrev pub AreFiled : List (Id × List (Id × List Field)) → List (Id × List Field) → Type 0
AreFiled [] newest = Unit {0}
AreFiled (b ∷ bs) newest = IsFiled b (entries_of_blocks bs ++ newest) × AreFiled bs newest

-- the bytes that a filed block takes in addition to its own: its place in the tree
abbrev pub place_room : ℕ
place_room = 128

-- the memory of filed blocks
abbrev pub room_of_blocks : List (Id × BlockState) → ℕ
room_of_blocks [] = 0
room_of_blocks (b ∷ bs) = (b.1.room + place_room) + room_of_blocks bs

-- the memory of all blocks
abbrev pub room_of : Entries → ℕ
room_of entries = room_of_blocks entries.older.entries + entries.newest.room

-- each block has less than 2^63 bytes, as each piece of memory does
abbrev pub AllFit : List (Id × BlockState) → Type 0
AllFit [] = Unit {0}
AllFit (b ∷ bs) = (b.1.room < 2 ^ 63) × AllFit bs

-- this many bytes are the memory of filed blocks, which are few enough to add it up
pub record AreMeasured (blocks : List (Id × BlockState)) (room : ℕ) : Type 0 where
  pub sum : room ≡ room_of_blocks blocks
  pub fit : AllFit blocks
  pub few : length blocks < 2 ^ 63

-- the sum that is stored is the memory of the filed blocks
abbrev pub IsMeasured : Entries → Type 0
IsMeasured entries = AreMeasured entries.older.entries entries.room

-- each block is filed, the count is that of the entries, and it is within a signed number of 64 bits
pub record IsLaidDown (entries : Entries) : Type 0 where
  pub filed : AreFiled (contents entries.older.entries) entries.newest.entries
  pub measured : IsMeasured entries
  pub counted : entries.len ≡ length (all_of entries)
  pub small : entries.len < 2 ^ 63

-- a block was put in front of the one under an id
abbrev pub HasJoined : Id → List (Id × List Field) → List (Id × List (Id × List Field))
    → List (Id × List (Id × List Field)) → Type 0
HasJoined next front old new =
    (es : List (Id × List Field)) × (lookup (is_same_id next) old ≡ Some es)
    × (new ≡ set_value (is_same_id next) old (front ++ es))

-- the ids under which blocks are filed
abbrev pub block_ids : Entries → List Id
block_ids entries = keys_of (contents entries.older.entries)

-- What is true within a stream: it is valid, its entries are stored in blocks, and none of their ids is above the top.
-- Since each addition has a greater id, there were at most as many additions as there are ids up to the top.
pub record IsSound (top : Id) (added : ℕ) (entries : Entries) : Type 0 where
  pub valid : AreValid top (all_of entries)
  pub few : added ≤ rank_of top
  pub laid_down : IsLaidDown entries
  pub filed_up_to_top : AllUpTo top (block_ids entries)

abbrev pub end_under : Option Id → Bound Id
end_under None = Unbounded
end_under (Some id) = Included id

-- the last block that may have an id that isn't above this one is the first that is filed under this one or above it
abbrev pub end_at : Id → List (Id × List (Id × List Field)) → Bound Id
end_at high blocks = end_under (lookup_key (λ under. not (is_below under high)) blocks)
