-- The content of the keyspace, and the content of a history.
use Rattle.std.specs.Prelude.{◌≡◌, Option, Some, None}
use Rattle.xs_keys.specs.Terms.{NameMap, get, StreamState, GroupState}
use Rattle.xs_keys.specs.Life.{KeyLife, key_life, stream_of}
use Rattle.xs_keys.specs.GroupEvent.{cursor, seen_at, rows}
use Rattle.xs_keys.specs.GroupLife.{GroupLife, group_life}
use Rattle.xs_keys.specs.Event.{Bytes, History}

-- the content of a key: its stream, and its groups by name
pub record KeyState : Type 0 where
  pub stream : StreamState
  pub groups : NameMap GroupState

-- the content of the keyspace: the keys and their contents
abbrev pub Content : Type 0
Content = NameMap KeyState

-- a group's cursor, consumers with their moments, and rows are those of its life
pub record IsGroupOfLife (group : GroupState) (life : GroupLife) : Type 0 where
  pub cursor_is : group.cursor ≡ cursor life.start life.events
  pub consumers_are : (name : Bytes) → get group.consumers name ≡ seen_at life.start life.events name
  pub rows_are : group.rows.entries ≡ rows life.start life.events

-- a group exists exactly if its life is open, and its cursor, consumers and rows are those of the life
abbrev pub GroupHolds : Option GroupState → Option GroupLife → Type 0
GroupHolds None None = Unit {0}
GroupHolds (Some group) (Some life) = IsGroupOfLife group life
GroupHolds _ _ = ⊥

-- a key exists exactly if its life is open; without one there are no groups
abbrev pub KeyHolds : Option KeyState → Option KeyLife → (Bytes → Option GroupLife) → Type 0
KeyHolds None None lives = (group : Bytes) → GroupHolds None (lives group)
KeyHolds (Some key) (Some past) lives =
    (key.stream ≡ stream_of past) × ((group : Bytes) → GroupHolds (get key.groups group) (lives group))
KeyHolds _ _ lives = ⊥

-- the content of a history
abbrev pub IsContent : Content → History → Type 0
IsContent content past =
    (name : Bytes) → KeyHolds (get content name) (key_life past name) (λ group. group_life past name group)
