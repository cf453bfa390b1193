-- The number of bytes of memory that the keys are counted with.
use Rattle.std.specs.Prelude.{◌≡◌, ℕ, ◌+◌, ◌^◌, ◌%◌, List, [], ◌∷◌, length, map, Option, Bool, ◌&&◌, nat_lt}
use Rattle.xs_bytes.specs.MapOf.{from_entries}
use Rattle.xs_stream.specs.declared.field.Field.{Field}
use Rattle.xs_stream.specs.StreamContent.{StreamInMemory, state_of}
use Rattle.xs_group.specs.GroupRoom.{room_of_group}
use Rattle.xs_keys.specs.Terms.{option_map, NameMap, GroupState}
use Rattle.xs_keys.specs.Content.{KeyState, Content}

-- a key in memory: its stream, and its groups by name
pub record KeyInMemory : Type 0 where
  pub stream : StreamInMemory
  pub groups : NameMap GroupState

-- its content, whatever memory it has for that
abbrev pub key_state_of : KeyInMemory → KeyState
key_state_of key = record { stream = state_of key.stream; groups = key.groups }

abbrev pub state_in : Option KeyInMemory → Option KeyState
state_in key = option_map key_state_of key

-- the content of all keys
abbrev pub content_of : NameMap KeyInMemory → Content
content_of keys = from_entries (map (λ e. (e.0, key_state_of e.1)) keys.entries)

-- a named value: the bytes of the name, and the room of the value
abbrev pub room_of_named : {X : Type 0} → (X → ℕ) → List (List ℕ × X) → ℕ
room_of_named room [] = 0
room_of_named room (e ∷ es) = (length e.0 + room e.1) + room_of_named room es

-- the names and values of fields
abbrev pub bytes_of_fields : List Field → ℕ
bytes_of_fields [] = 0
bytes_of_fields (f ∷ fs) = (length f.name + length f.value) + bytes_of_fields fs

-- a key without its name, its stream and its groups. The figure is measured
abbrev pub key_room : ℕ
key_room = 330

abbrev pub room_of_key : KeyInMemory → ℕ
room_of_key key = key_room + key.stream.room + room_of_named room_of_group key.groups.entries

abbrev pub room_of_keys : NameMap KeyInMemory → ℕ
room_of_keys keys = room_of_named room_of_key keys.entries

-- this many bytes more are above a bound; a bound of 0 is none
abbrev pub is_above : ℕ → ℕ → ℕ → Bool
is_above bound held more = nat_lt 0 bound && nat_lt bound (held + more)

-- the stored count of a sum: it is the sum itself, as long as that is below 2^128
abbrev pub IsCountOf : ℕ → ℕ → Type 0
IsCountOf sum held = held ≡ sum % 2 ^ 128

-- this many bytes are counted for keys with this content
abbrev pub IsRoomOf : Content → ℕ → Type 0
IsRoomOf content held = (keys : NameMap KeyInMemory) × (content_of keys ≡ content) × IsCountOf (room_of_keys keys) held
