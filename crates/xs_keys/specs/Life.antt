-- The lives of keys, and the stream of a life by looking back. A list of past events has the newest first.
use Rattle.std.specs.Prelude.{ℕ, Bool, List, [], ◌∷◌, Option, Some, None, if◌then◌else◌, true, false, ◌&&◌, ◌++◌}
use Rattle.std.specs.Prelude.{filter, length, Result, Ok, Err, is_ok}
use Rattle.xs_keys.specs.Terms.{option_map, option_map_or, option_or, list_any, Id, AddId, Trim, Field, is_same_name}
use Rattle.xs_keys.specs.Terms.{Command, Add, Delete, TrimTo, GroupCreate, DropKeys, AddError, has_id}
use Rattle.xs_keys.specs.Terms.{zero_id, is_trimmed, id_of_addition, StreamState, ids_of, greatest}
use Rattle.xs_keys.specs.Event.{Bytes, History, Entries, event_moment, event_command}

-- the name is one of these; names of keys, groups and consumers are lists of bytes
abbrev pub is_listed : List Bytes → Bytes → Bool
is_listed names name = list_any (is_same_name name) names

-- the events of the stream of a key; an addition, at its moment, may still be refused
pub data StreamEvent : Type 0 where
  add_entry : ℕ → AddId → List Field → Option Trim → StreamEvent  -- XADD
  delete_entries : List Id → StreamEvent  -- XDEL
  trim_entries : Trim → StreamEvent  -- XTRIM

-- the life of a key: the events of its stream, newest first
abbrev pub KeyLife : Type 0
KeyLife = List StreamEvent

-- the open life of a key, or a new one if the command may create the key
abbrev pub life_or_new : Bool → Option KeyLife → Option KeyLife
life_or_new make life = option_or life (if make then Some [] else None)

-- the life of a key after a command at a moment: the events of its stream, newest first; none if no life is open
abbrev pub key_life_after : ℕ → Command → Bytes → Option KeyLife → Option KeyLife
key_life_after now (Add add) key life =
    let event = add_entry now add.id add.fields add.trim in
    if is_same_name key add.key then option_map (λ past. event ∷ past) (life_or_new add.make life) else life
key_life_after now (Delete name ids) key life =
    if is_same_name key name then option_map (λ past. delete_entries ids ∷ past) life else life
key_life_after now (TrimTo name trim) key life =
    if is_same_name key name then option_map (λ past. trim_entries trim ∷ past) life else life
key_life_after now (GroupCreate create) key life =
    if is_same_name key create.key then life_or_new create.make life else life
key_life_after now (DropKeys keys) key life = if is_listed keys key then None else life
key_life_after now _ key life = life

-- the open life of a key, looking back over all events
abbrev pub key_life : History → Bytes → Option KeyLife
key_life [] key = None
key_life (e ∷ past) key = key_life_after (event_moment e) (event_command e) key (key_life past key)

-- the greatest id of these entries, or 0-0
abbrev pub top_of : Entries → Id
top_of entries = greatest zero_id (ids_of entries)

-- the entry of an assigned id
abbrev pub entry_of : Result Id AddError → List Field → Entries
entry_of (Ok id) fields = (id, fields) ∷ []
entry_of (Err refusal) fields = []

-- the entries that an event adds to a stream with this top: that of an addition, unless it is refused
abbrev pub entries_added_by : StreamEvent → Id → Entries
entries_added_by (add_entry now id fields trim) top = entry_of (id_of_addition now top id) fields
entries_added_by _ top = []

-- all entries that were ever added in a life, in the order of the events, the deleted ones too
abbrev pub added_in : KeyLife → Entries
added_in [] = []
added_in (event ∷ past) = added_in past ++ entries_added_by event (top_of (added_in past))

-- the greatest id ever added, or 0-0
abbrev pub top : KeyLife → Id
top past = top_of (added_in past)

-- an event removes an id: a deletion names it, or a trim drops it, by itself or with an addition that isn't refused
abbrev pub removes_id : StreamEvent → Id → List Id → Id → Bool
removes_id (add_entry now id fields trim) top present x =
    is_ok (id_of_addition now top id) && option_map_or (λ t. is_trimmed t present x) trim false
removes_id (delete_entries ids) top present x = has_id ids x
removes_id (trim_entries trim) top present x = is_trimmed trim present x

-- the id was added, and neither that event nor a later one has removed it
abbrev pub is_present : KeyLife → Id → Bool
is_present [] x = false
is_present (event ∷ past) x =
    let new = entries_added_by event (top past) in
    let before = filter (λ e. is_present past e.0) (added_in past) in
    if removes_id event (top past) (ids_of (before ++ new)) x then false
    else (if has_id (ids_of new) x then true else is_present past x)

-- the entries that are in the stream
abbrev pub present_entries : KeyLife → Entries
present_entries past = filter (λ e. is_present past e.0) (added_in past)

-- the ids of all entries that deletions have removed, in the order of the events
abbrev pub deleted_in : KeyLife → List Id
deleted_in [] = []
deleted_in (delete_entries ids ∷ past) = deleted_in past ++ filter (has_id ids) (ids_of (present_entries past))
deleted_in (event ∷ past) = deleted_in past

-- the stream: its top, the entries in it, the number of entries ever added, and the greatest id ever deleted, or 0-0
abbrev pub stream_of : KeyLife → StreamState
stream_of past = record {
  top = top past;
  entries = present_entries past;
  added = length (added_in past);
  deleted = greatest zero_id (deleted_in past);
}

-- all entries that were ever added in the open life of a key, with the fields that they were added with
abbrev pub added_at : History → Bytes → Entries
added_at past key = option_map_or added_in (key_life past key) []
