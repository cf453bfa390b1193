-- How entries come to a stream and leave it, and how groups begin and end. (Redis, XADD, XDEL, XTRIM, XGROUP CREATE,
-- XGROUP DESTROY and DEL.)
use Rattle.std.specs.Prelude.{◌≡◌, ◌⊎◌, Bool, true, false, not, ◌&&◌, ◌||◌, List, ◌∷◌, Option, Some, None, is_some}
use Rattle.xs_keys.specs.Terms.{Id, has_id, ids_of, is_same_name, Command, Add, GroupCreate, DropKeys}
use Rattle.xs_keys.specs.Terms.{GroupStart, Top, At}
use Rattle.xs_keys.specs.Life.{KeyLife, is_listed, key_life, top_of}
use Rattle.xs_keys.specs.GroupLife.{GroupLife, group_life, present_in}
use Rattle.xs_keys.specs.Effect.{deletes_entry, may_trim_entry, ends_group}
use Rattle.xs_keys.specs.Life.{added_at}
use Rattle.xs_keys.specs.Event.{Bytes, Event, History, Entries, event_command, is_same_group}

-- ---- entries

-- the command deletes the key
abbrev pub deletes_key : Command → Bytes → Bool
deletes_key (DropKeys keys) key = is_listed keys key
deletes_key _ key = false

-- the command adds to the key, or deletes it
abbrev pub adds_to_or_deletes_key : Command → Bytes → Bool
adds_to_or_deletes_key (Add add) key = is_same_name key add.key
adds_to_or_deletes_key command key = deletes_key command key

-- entries come only by additions: another command leaves all that was ever added, unless it deletes the key
abbrev pub EntriesAreAdded : History → Event → Type 0
EntriesAreAdded earlier e =
    (key : Bytes)
    → (added_at (e ∷ earlier) key ≡ added_at earlier key) ⊎ (adds_to_or_deletes_key (event_command e) key ≡ true)

-- the command may remove the entry from a stream of these ids: it deletes it, may trim it away, or deletes the key
abbrev pub may_remove_entry : Command → Bytes → List Id → Id → Bool
may_remove_entry command key present x =
    deletes_entry command key x || (may_trim_entry command key present x || deletes_key command key)

-- the command removes the entry for certain; an addition may be refused, and then trims nothing
abbrev pub has_to_remove : Command → Bytes → List Id → Id → Bool
has_to_remove (Add add) key present x = false
has_to_remove command key present x = may_remove_entry command key present x

-- an entry at a command, from the ids in the stream before and after it and those ever added before it: an entry in the
-- stream stays unless the command may remove it, it is gone if the command has to remove it, and an entry that comes is
-- new
pub record EntryStays (command : Command) (key : Bytes) (before after added : List Id) (x : Id) : Type 0 where
  pub unless_removed : has_id before x ≡ true → has_id after x ≡ false → may_remove_entry command key before x ≡ true
  pub is_removed : has_to_remove command key before x ≡ true → has_id after x ≡ false
  pub comes_new : has_id before x ≡ false → has_id after x ≡ true → has_id added x ≡ false

-- each entry of each key stays so
abbrev pub EntriesStay : History → Event → Type 0
EntriesStay earlier e =
    (key : Bytes) (x : Id)
    → EntryStays (event_command e) key (present_in (key_life earlier key)) (present_in (key_life (e ∷ earlier) key))
    (ids_of (added_at earlier key)) x

-- ---- groups

-- a group starts at the written id, or for `$` at the greatest id that was ever added
abbrev pub StartsAt : GroupStart → Entries → Id → Type 0
StartsAt Top added start = start ≡ top_of added
StartsAt (At id) added start = start ≡ id

-- a command creates this group with this start
abbrev pub MakesGroup : Command → Bytes → Bytes → Entries → Id → Type 0
MakesGroup (GroupCreate create) key group added start =
    (is_same_group key group create.key create.group ≡ true) × StartsAt create.start added start
MakesGroup _ key group added start = ⊥

-- a group comes only by its XGROUP CREATE, and starts as that requires
abbrev pub GroupsAreCreated : History → Event → Type 0
GroupsAreCreated earlier e =
    (key group : Bytes) (life : GroupLife) → group_life earlier key group ≡ None
    → group_life (e ∷ earlier) key group ≡ Some life
    → MakesGroup (event_command e) key group (added_at earlier key) life.start

-- an XGROUP CREATE of the group, whose key exists or may be created
abbrev pub has_to_create : Command → Bytes → Bytes → Option KeyLife → Bool
has_to_create (GroupCreate create) key group stream =
    is_same_group key group create.key create.group && (create.make || is_some stream)
has_to_create _ key group stream = false

-- a group that is open stays so until a command ends it, and then it is gone; and one that has to be created is open
abbrev pub GroupsStay : History → Event → Type 0
GroupsStay earlier e =
    (key group : Bytes)
    → (is_some (group_life earlier key group) ≡ true
    → is_some (group_life (e ∷ earlier) key group) ≡ not (ends_group (event_command e) key group))
    × (has_to_create (event_command e) key group (key_life earlier key) ≡ true
    → is_some (group_life (e ∷ earlier) key group) ≡ true)
