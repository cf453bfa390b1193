-- The content after each command. (The pages of the commands.)
use Rattle.std.specs.Prelude.{ℕ, List, Option, Some, None, Bool, [], ◌∷◌, option_and_then, Result, Ok, Err}
use Rattle.std.specs.Prelude.{is_some, if◌then◌else◌}
use Rattle.xs_keys.specs.Terms.{list_all, option_or, option_map_or, get, Id, StreamState, ids_of, GroupState, Command}
use Rattle.xs_keys.specs.Terms.{empty}
use Rattle.xs_keys.specs.Terms.{has_key, insert, remove, Field, Trim, AddError, id_of_addition}
use Rattle.xs_keys.specs.Terms.{entries_after_trim, new_stream, with_entry, with_deleted}
use Rattle.xs_keys.specs.Terms.{with_consumer, group_after_delivery, group_after_reread, claim_by_ids, scan_of}
use Rattle.xs_keys.specs.Terms.{group_after_claim, new_group, group_after_ack}
use Rattle.xs_keys.specs.Terms.{without_consumer, Add, Delete, TrimTo, GroupCreate, GroupDestroy, ConsumerCreate}
use Rattle.xs_keys.specs.Terms.{ConsumerDelete, ReadGroup, Ack, Claim, AutoClaim, DropKeys, GroupCreateCommand}
use Rattle.xs_keys.specs.Terms.{ReadGroupCommand, ReadOne}
use Rattle.xs_keys.specs.Life.{StreamEvent, add_entry, delete_entries, trim_entries}
use Rattle.xs_keys.specs.GroupAsk.{GroupAsk, read_new, read_own, acknowledge, create_consumer, delete_consumer, claim}
use Rattle.xs_keys.specs.GroupAsk.{auto_claim}
use Rattle.xs_keys.specs.GroupLife.{starting_id, ask_of_read}
use Rattle.xs_keys.specs.Event.{Bytes, Entries}
use Rattle.xs_keys.specs.Content.{KeyState, Content}

-- a new key has an empty stream, and no groups
abbrev pub new_key : KeyState
new_key = record { stream = new_stream; groups = empty }

-- the key, or a new one if it is missing and may be created
abbrev pub key_or_new : Bool → Option KeyState → Option KeyState
key_or_new make key = option_or key (if make then Some new_key else None)

-- an entry is added first, and then the stream is trimmed; a refused addition changes nothing
abbrev pub stream_with : Result Id AddError → List Field → Option Trim → StreamState → StreamState
stream_with (Ok id) fields trim stream =
    let longer = with_entry id fields stream in
    record longer { entries = option_map_or (λ t. entries_after_trim t longer.entries) trim longer.entries }
stream_with (Err refusal) fields trim stream = stream

-- a stream after an event
abbrev pub stream_after : StreamEvent → StreamState → StreamState
stream_after (add_entry now id fields trim) stream = stream_with (id_of_addition now stream.top id) fields trim stream
stream_after (delete_entries ids) stream = with_deleted ids stream
stream_after (trim_entries trim) stream = record stream { entries = entries_after_trim trim stream.entries }

abbrev pub key_after : StreamEvent → KeyState → KeyState
key_after event key = record key { stream = stream_after event key.stream }

-- the content with the stream of a key after an event; unchanged if there is no key
abbrev pub after_stream_event : Content → Bytes → StreamEvent → Option KeyState → Content
after_stream_event content name event key = option_map_or (λ k. insert content name (key_after event k)) key content

-- the content without these keys
abbrev pub without_keys : List Bytes → Content → Content
without_keys [] content = content
without_keys (name ∷ names) content = without_keys names (remove content name)

-- a group after an ask at a moment, over the ids in the stream
abbrev pub group_after : ℕ → List Id → GroupAsk → GroupState → GroupState
group_after now present (read_new consumer limit noack) group =
    group_after_delivery consumer now limit noack present group
group_after now present (read_own consumer limit from) group = group_after_reread consumer now limit from present group
group_after now present (acknowledge ids) group = group_after_ack ids group
group_after now present (create_consumer consumer) group = with_consumer consumer now group
group_after now present (delete_consumer consumer) group = without_consumer consumer group
group_after now present (claim consumer rule ids) group =
    group_after_claim consumer now rule (claim_by_ids group.rows.entries present now rule ids) group
group_after now present (auto_claim consumer rule start limit) group =
    group_after_claim consumer now rule (scan_of group.rows.entries present now rule start limit).claim group

-- a key with this group
abbrev pub with_group : KeyState → Bytes → GroupState → KeyState
with_group key name group = record key { groups = insert key.groups name group }

-- the content with a group of a key after an ask; unchanged if one of them is missing
abbrev pub after_ask : Content → ℕ → Bytes → Bytes → GroupAsk → Content
after_ask content now name group_name ask =
    let with_asked : KeyState → GroupState → Content = λ key group.
    insert content name (with_group key group_name (group_after now (ids_of key.stream.entries) ask group)) in
    option_map_or (λ key. option_map_or (with_asked key) (get key.groups group_name) content) (get content name) content

-- the content with a new group of a key; unchanged if the group exists
abbrev pub after_create : Content → GroupCreateCommand → Option KeyState → Content
after_create content create None = content
after_create content create (Some key) =
    if has_key key.groups create.group then content
    else insert content create.key (with_group key create.group (new_group (starting_id create.start key.stream.top)))

-- the group of a key, and the entries of a key
abbrev pub group_in : Option KeyState → Bytes → Option GroupState
group_in key group_name = option_and_then (λ k. get k.groups group_name) key

abbrev pub entries_in : Option KeyState → Entries
entries_in key = option_map_or (λ k. k.stream.entries) key []

-- each key and group that a read names exists; if one is missing the whole read is refused
abbrev pub has_all_groups_in : Content → ReadGroupCommand → Bool
has_all_groups_in content read = list_all (λ one. is_some (group_in (get content one.key) read.group)) read.reads

-- the content after the reads of a command, one after the other
abbrev pub after_reads : Content → ℕ → ReadGroupCommand → List ReadOne → Content
after_reads content now read [] = content
after_reads content now read (one ∷ more) =
    after_reads (after_ask content now one.key read.group (ask_of_read read one.from)) now read more

-- the content after a command at a moment
abbrev pub content_after : Content → ℕ → Command → Content
content_after content now (Add add) =
    let event = add_entry now add.id add.fields add.trim in
    after_stream_event content add.key event (key_or_new add.make (get content add.key))
content_after content now (Delete name ids) = after_stream_event content name (delete_entries ids) (get content name)
content_after content now (TrimTo name trim) = after_stream_event content name (trim_entries trim) (get content name)
content_after content now (GroupCreate create) =
    after_create content create (key_or_new create.make (get content create.key))
content_after content now (GroupDestroy name group) =
    option_map_or (λ k. insert content name (record k { groups = remove k.groups group })) (get content name) content
content_after content now (ConsumerCreate name group consumer) =
    after_ask content now name group (create_consumer consumer)
content_after content now (ConsumerDelete name group consumer) =
    after_ask content now name group (delete_consumer consumer)
content_after content now (ReadGroup read) =
    if has_all_groups_in content read then after_reads content now read read.reads else content
content_after content now (Ack name group ids) = after_ask content now name group (acknowledge ids)
content_after content now (Claim c) = after_ask content now c.key c.group (claim c.consumer c.rule c.ids)
content_after content now (AutoClaim c) =
    after_ask content now c.key c.group (auto_claim c.consumer c.rule c.start c.limit)
content_after content now (DropKeys keys) = without_keys keys content
content_after content now _ = content
