-- The reply to each command, from the content that it meets. (The pages of the commands, "RESP2 Reply".)
use Rattle.std.specs.Prelude.{ℕ, ◌+◌, ◌-◌, List, [], ◌∷◌, ◌++◌, map, length, Option, if◌then◌else◌}
use Rattle.xs_keys.specs.Terms.{option_map_or, get, has_key, remove, id_of_addition, ids_of, ids_within, up_to_limit}
use Rattle.xs_keys.specs.Terms.{NoGroup}
use Rattle.xs_keys.specs.Terms.{Busy, Reply, Simple, Error, Int, Bulk, NullBulk, Okay, Pong, Command, Ping, Quit, Add}
use Rattle.xs_keys.specs.Terms.{Delete, TrimTo, Len, Scan, GroupCreate, GroupDestroy, ConsumerCreate, ConsumerDelete}
use Rattle.xs_keys.specs.Terms.{ReadGroup, Ack, Pending, PendingRows, Claim, AutoClaim, DropKeys, Inspect, ReadGroupCommand}
use Rattle.xs_keys.specs.Terms.{ReadOne, ReadFrom, New, After, GroupState, has_name, new_ids, reread_ids, claim_by_ids}
use Rattle.xs_keys.specs.Terms.{scan_of}
use Rattle.xs_keys.specs.Terms.{group_after_ack, owned_count, summary_of, pending_of}
use Rattle.xs_keys.specs.Life.{StreamEvent, delete_entries, trim_entries}
use Rattle.xs_keys.specs.GroupLife.{ask_of_read}
use Rattle.xs_keys.specs.Content.{Content, KeyState}
use Rattle.xs_keys.specs.ContentAfter.{stream_after, key_or_new, after_ask, has_all_groups_in, group_in}
use Rattle.xs_keys.specs.ContentAfter.{entries_in}
use Rattle.xs_keys.specs.Event.{Bytes, Entries}
use Rattle.xs_keys.specs.ReplyParts.{array, array_or_null, entries_reply, assigned_reply, reply_of_group, reply_of_key}
use Rattle.xs_keys.specs.InspectionReply.{inspection_reply}
use Rattle.xs_keys.specs.ReplyParts.{stream_part}
use Rattle.xs_keys.specs.ReplyParts.{new_part, summary_reply, row_reply, taken_reply, scan_reply}

-- XDEL and XTRIM: the number of entries that are removed; a missing key has none
abbrev pub removed_count : StreamEvent → Option KeyState → ℕ
removed_count event key =
    option_map_or (λ k. length k.stream.entries - length (stream_after event k.stream).entries) key 0

-- DEL: the number of these keys that exist, each counted once
abbrev pub existing_count : List Bytes → Content → ℕ
existing_count [] content = 0
existing_count (name ∷ names) content =
    (if has_key content name then 1 else 0) + existing_count names (remove content name)

-- what one read of a group contributes to the reply
abbrev pub parts_of_read : ReadGroupCommand → Bytes → ReadFrom → Entries → GroupState → List Reply
parts_of_read read key New entries group = new_part key entries (new_ids read.limit group.cursor (ids_of entries))
parts_of_read read key (After id) entries group =
    stream_part key entries (reread_ids read.consumer read.limit id group.rows.entries) ∷ []

-- the streams of a read in the order written, each in the state after the reads before it
abbrev pub parts : Content → ℕ → ReadGroupCommand → List ReadOne → List Reply
parts content now read [] = []
parts content now read (one ∷ more) =
    let key = get content one.key in
    option_map_or (parts_of_read read one.key one.from (entries_in key)) (group_in key read.group) []
    ++ parts (after_ask content now one.key read.group (ask_of_read read one.from)) now read more

-- the reply to a command at a moment
abbrev pub reply : Content → ℕ → Command → Reply
reply content now (Ping message) = option_map_or Bulk message (Simple Pong)
reply content now Quit = Simple Okay
reply content now (Add add) =
    let added : KeyState → Reply = λ k. assigned_reply (id_of_addition now k.stream.top add.id) in
    option_map_or added (key_or_new add.make (get content add.key)) NullBulk
reply content now (Delete name ids) = Int (removed_count (delete_entries ids) (get content name))
reply content now (TrimTo name trim) = Int (removed_count (trim_entries trim) (get content name))
reply content now (Len name) = Int (length (entries_in (get content name)))
reply content now (Scan scan) =
    let entries = entries_in (get content scan.key) in
    entries_reply entries (up_to_limit scan.limit (ids_within scan.range scan.reversed entries))
reply content now (DropKeys names) = Int (existing_count names content)
reply content now (Inspect inspection) = inspection_reply content now inspection
reply content now (GroupCreate create) =
    reply_of_key (key_or_new create.make (get content create.key))
    (λ k. if has_key k.groups create.group then Error Busy else Simple Okay)
reply content now (GroupDestroy name group) =
    reply_of_key (get content name) (λ k. Int (if has_key k.groups group then 1 else 0))
reply content now (ConsumerCreate name group consumer) =
    reply_of_key (get content name)
    (λ k. reply_of_group (get k.groups group) (λ g. Int (if has_name g.consumers consumer then 0 else 1)))
reply content now (ConsumerDelete name group consumer) =
    reply_of_key (get content name) (λ k. reply_of_group (get k.groups group) (λ g. Int (owned_count consumer g)))
reply content now (ReadGroup read) =
    if has_all_groups_in content read then array_or_null (parts content now read read.reads) else Error NoGroup
reply content now (Ack name group ids) =
    let group = group_in (get content name) group in
    Int (option_map_or (λ g. length g.rows.entries - length (group_after_ack ids g).rows.entries) group 0)
reply content now (Pending name group) =
    reply_of_group (group_in (get content name) group) (λ g. summary_reply (summary_of g))
reply content now (PendingRows p) =
    reply_of_group (group_in (get content p.key) p.group)
    (λ g. array (map row_reply (pending_of p.range p.min_idle now p.limit p.consumer g)))
reply content now (Claim c) =
    let entries = entries_in (get content c.key) in
    reply_of_group (group_in (get content c.key) c.group)
    (λ g. taken_reply c.rule.just_id entries (claim_by_ids g.rows.entries (ids_of entries) now c.rule c.ids).take)
reply content now (AutoClaim c) =
    let entries = entries_in (get content c.key) in
    reply_of_group (group_in (get content c.key) c.group)
    (λ g. scan_reply c.rule.just_id entries (scan_of g.rows.entries (ids_of entries) now c.rule c.start c.limit))
