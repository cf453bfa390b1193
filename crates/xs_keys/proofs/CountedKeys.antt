-- The count of the keys: how it changes if a stream or a group of a key changes, and if one is added or removed.
use Rattle.std.proofs.Common.{◌≡◌, ℕ, ◌+◌, ◌^◌, ◌%◌, ◌<◌, List, length, Some, None, arith}
use Rattle.xs_bytes.specs.SortedMap.{NameMap, get, insert, remove, empty}
use Rattle.xs_stream.specs.StreamContent.{StreamInMemory}
use Rattle.xs_group.specs.GroupState.{GroupState}
use Rattle.xs_group.specs.GroupRoom.{room_of_group}
use Rattle.xs_keys.specs.KeysRoom.{KeyInMemory, room_of_key, room_of_keys, IsCountOf}
use Rattle.xs_keys.proofs.NamedRooms.{room-changed, room-grown, room-fewer, room-none}
use Rattle.xs_keys.proofs.Counted.{counted-changed}

-- there are no keys
pub counted-none : IsCountOf (room_of_keys empty) 0
counted-none = omega (arith, room-none room_of_key)

module _ (keys : NameMap KeyInMemory) (held later : ℕ) (counted : IsCountOf (room_of_keys keys) held) (small : later < 2 ^ 128) (name : List ℕ) where
  -- a key changes
  pub counted-key : (key new : KeyInMemory) (before after : ℕ) → get keys name ≡ Some key → room_of_key new + before ≡ room_of_key key + after
      → (later + before) % 2 ^ 128 ≡ (held + after) % 2 ^ 128 → IsCountOf (room_of_keys (insert keys name new)) later
  counted-key key new before after found room changed =
      counted-changed (room_of_keys keys) (room_of_keys (insert keys name new)) held later before after counted small changed
      (omega (arith, room, room-changed room_of_key keys name new key found))

  -- a key is added
  pub counted-new : (new : KeyInMemory) (before after : ℕ) → get keys name ≡ None → before ≡ 0 → after % 2 ^ 128 ≡ (length name + room_of_key new) % 2 ^ 128
      → (later + before) % 2 ^ 128 ≡ (held + after) % 2 ^ 128 → IsCountOf (room_of_keys (insert keys name new)) later
  counted-new new before after none nothing room changed =
      counted-changed (room_of_keys keys) (room_of_keys (insert keys name new)) held later 0 (length name + room_of_key new) counted small
      (omega (arith, nothing, room, changed)) (omega (arith, room-grown room_of_key keys name new none))

  -- a key is removed
  pub counted-gone : (key : KeyInMemory) (before after : ℕ) → get keys name ≡ Some key → after ≡ 0 → before % 2 ^ 128 ≡ (length name + room_of_key key) % 2 ^ 128
      → (later + before) % 2 ^ 128 ≡ (held + after) % 2 ^ 128 → IsCountOf (room_of_keys (remove keys name)) later
  counted-gone key before after found nothing room changed =
      counted-changed (room_of_keys keys) (room_of_keys (remove keys name)) held later (length name + room_of_key key) 0 counted small
      (omega (arith, nothing, room, changed)) (omega (arith, room-fewer room_of_key keys name key found))

  module _ (key : KeyInMemory) (found : get keys name ≡ Some key) where
    -- the stream of a key changes
    pub counted-stream : (new : StreamInMemory) → (later + key.stream.room) % 2 ^ 128 ≡ (held + new.room) % 2 ^ 128
        → IsCountOf (room_of_keys (insert keys name (record { stream = new; groups = key.groups }))) later
    counted-stream new changed =
        counted-key key (record { stream = new; groups = key.groups }) key.stream.room new.room found (omega arith) changed

    -- a group of a key changes
    pub counted-group : (group_name : List ℕ) (group new : GroupState) → get key.groups group_name ≡ Some group → (later + room_of_group group) % 2 ^ 128 ≡ (held + room_of_group new) % 2 ^ 128
        → IsCountOf (room_of_keys (insert keys name (record { stream = key.stream; groups = insert key.groups group_name new }))) later
    counted-group group_name group new there changed =
        counted-key key (record { stream = key.stream; groups = insert key.groups group_name new }) (room_of_group group) (room_of_group new) found
        (omega (arith, room-changed room_of_group key.groups group_name new group there)) changed

    -- a group is added to a key
    pub counted-group-new : (group_name : List ℕ) (new : GroupState) → get key.groups group_name ≡ None
        → (later + 0) % 2 ^ 128 ≡ (held + (length group_name + room_of_group new)) % 2 ^ 128
        → IsCountOf (room_of_keys (insert keys name (record { stream = key.stream; groups = insert key.groups group_name new }))) later
    counted-group-new group_name new none changed =
        counted-key key (record { stream = key.stream; groups = insert key.groups group_name new }) 0 (length group_name + room_of_group new) found
        (omega (arith, room-grown room_of_group key.groups group_name new none)) changed

    -- a group is removed from a key
    pub counted-group-gone : (group_name : List ℕ) (group : GroupState) → get key.groups group_name ≡ Some group
        → (later + (length group_name + room_of_group group)) % 2 ^ 128 ≡ (held + 0) % 2 ^ 128
        → IsCountOf (room_of_keys (insert keys name (record { stream = key.stream; groups = remove key.groups group_name }))) later
    counted-group-gone group_name group there changed =
        counted-key key (record { stream = key.stream; groups = remove key.groups group_name }) (length group_name + room_of_group group) 0 found
        (omega (arith, room-fewer room_of_group key.groups group_name group there)) changed
