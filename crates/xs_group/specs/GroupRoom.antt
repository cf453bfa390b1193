-- The number of bytes of memory that a group is counted with. The figures are measured.
use Rattle.std.specs.Prelude.{◌≡◌, ℕ, ◌+◌, ◌*◌, ◌/◌, nat_le, if◌then◌else◌, List, [], ◌∷◌, length}
use Rattle.xs_group.specs.Indexes.{PendingList}
use Rattle.xs_group.specs.ConsistentGroup.{IsUpTo}
use Rattle.xs_stream.specs.declared.id.Id.{Id}
use Rattle.xs_group.specs.GroupState.{Consumers, GroupState}

-- the number of bytes of names
abbrev pub bytes_of_keys : List (List ℕ × ℕ) → ℕ
bytes_of_keys [] = 0
bytes_of_keys (e ∷ es) = length e.0 + bytes_of_keys es

abbrev pub bytes_of_names : Consumers → ℕ
bytes_of_names consumers = bytes_of_keys consumers.entries

-- the number of places in a vector of few entries
abbrev pub places_of : ℕ → ℕ
places_of count = if nat_le count 1 then 1 else (if nat_le count 2 then 2 else (if nat_le count 4 then 4 else 8))

-- a map of up to eight entries is a vector, one of up to fifteen a node, and a larger one a tree of nodes of eight
abbrev pub room_of_map : ℕ → ℕ
room_of_map count =
    if nat_le count 0 then 0 else (if nat_le count 8 then 61 * (places_of count + 1)
    else (if nat_le count 15 then 960 else 960 * (count / 8 + 1)))

-- the group with its consumers, their names, and its rows
abbrev pub room_of_group : GroupState → ℕ
room_of_group group =
    205 + room_of_map (length group.consumers.entries) + bytes_of_names group.consumers
    + room_of_map (length group.rows.entries)

-- what is true within a group: no row is above its cursor, and the bytes of its consumers' names are counted
pub record IsCounted (cursor : Id) (pending : PendingList) (name_bytes : ℕ) : Type 0 where
  pub up_to_cursor : IsUpTo cursor pending.rows
  pub names_counted : name_bytes ≡ bytes_of_names pending.consumers
