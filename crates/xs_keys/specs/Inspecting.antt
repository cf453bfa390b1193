-- What XINFO STREAM, XINFO GROUPS and XINFO CONSUMERS report about a key. (Redis, their pages, "RESP2 Reply".)
use Rattle.std.specs.Prelude.{ℕ, ◌+◌, ◌-◌, Bool, true, false, ◌||◌, if◌then◌else◌, List, [], ◌∷◌, ◌++◌, map, length}
use Rattle.std.specs.Prelude.{codes, min, Some}
use Rattle.xs_stream.specs.declared.range.Range.{Range}
use Rattle.xs_stream.specs.Id.{greatest_id, is_below, is_same_id}
use Rattle.xs_stream.specs.StreamContent.{count_above, entries_within}
use Rattle.xs_group.specs.GroupState.{greatest_count}
use Rattle.xs_keys.specs.Terms.{Id, ids_of, StreamState, GroupState, ConsumerReport, consumer_reports, Reply, Int, Bulk}
use Rattle.xs_keys.specs.Terms.{NullBulk, zero_id}
use Rattle.xs_keys.specs.Content.{KeyState}
use Rattle.xs_keys.specs.Event.{Bytes, Entries}
use Rattle.xs_keys.specs.ReplyParts.{array, id_reply, present_reply}

-- XINFO GROUPS: a group, and the numbers of its consumers and of its pending entries
abbrev pub members_part : Bytes × GroupState → List Reply
members_part group =
    Bulk (codes "name") ∷ Bulk group.0
    ∷ Bulk (codes "consumers") ∷ Int (length group.1.consumers.entries)
    ∷ Bulk (codes "pending") ∷ Int (length group.1.rows.entries) ∷ []

-- a number above the greatest signed one of 64 bits is reported as that one
abbrev pub number_reply : ℕ → Reply
number_reply n = Int (min n greatest_count)

-- the number of entries above a cursor
abbrev pub lag_of : StreamState → Id → ℕ
lag_of stream cursor = count_above cursor (ids_of stream.entries)

-- a cursor gives no number of entries if it is 0-0, where nothing was read, or above the top, or if an entry above it
-- was deleted
abbrev pub tells_no_number : StreamState → Id → Bool
tells_no_number stream cursor =
    is_same_id cursor zero_id || (is_below stream.top cursor || is_below cursor stream.deleted)

-- the number of entries up to the cursor of a group: all that were ever added, without those above the cursor
abbrev pub read_reply : StreamState → Id → Reply
read_reply stream cursor =
    if tells_no_number stream cursor then NullBulk else number_reply (stream.added - lag_of stream cursor)

-- the progress of a group with this cursor in a stream
abbrev pub progress_part : StreamState → Id → List Reply
progress_part stream cursor =
    Bulk (codes "last-delivered-id") ∷ id_reply cursor
    ∷ Bulk (codes "entries-read") ∷ read_reply stream cursor
    ∷ Bulk (codes "lag") ∷ Int (lag_of stream cursor) ∷ []

abbrev pub group_reply : StreamState → Bytes × GroupState → Reply
group_reply stream group = array (members_part group ++ progress_part stream group.1.cursor)

-- XINFO GROUPS: the groups of a key, in the order of their names
abbrev pub groups_reply : KeyState → Reply
groups_reply key = array (map (group_reply key.stream) key.groups.entries)

-- all ids
abbrev pub whole_range : Range
whole_range = record { low = zero_id; high = greatest_id }

-- the first entry, or the last one, if there is one
abbrev pub end_of : Bool → Entries → Entries
end_of reversed entries = entries_within whole_range reversed (Some 1) entries

abbrev pub end_reply : Entries → Reply
end_reply [] = NullBulk
end_reply (e ∷ es) = present_reply e

abbrev pub end_id : Entries → Id
end_id [] = zero_id
end_id (e ∷ es) = e.0

-- XINFO STREAM: the size of the stream; for the radix tree, which doesn't exist here, it reports what Redis reports for
-- a small stream
abbrev pub size_part : Entries → List Reply
size_part entries =
    let nodes = min (length entries) 1 in
    Bulk (codes "length") ∷ Int (length entries)
    ∷ Bulk (codes "radix-tree-keys") ∷ Int nodes
    ∷ Bulk (codes "radix-tree-nodes") ∷ Int (nodes + 1) ∷ []

-- the past of the stream
abbrev pub past_part : StreamState → Id → List Reply
past_part stream first =
    Bulk (codes "last-generated-id") ∷ id_reply stream.top
    ∷ Bulk (codes "max-deleted-entry-id") ∷ id_reply stream.deleted
    ∷ Bulk (codes "entries-added") ∷ number_reply stream.added
    ∷ Bulk (codes "recorded-first-entry-id") ∷ id_reply first ∷ []

-- its groups and its ends
abbrev pub ends_part : ℕ → Entries → Entries → List Reply
ends_part groups first last =
    Bulk (codes "groups") ∷ Int groups
    ∷ Bulk (codes "first-entry") ∷ end_reply first
    ∷ Bulk (codes "last-entry") ∷ end_reply last ∷ []

abbrev pub stream_reply : KeyState → Reply
stream_reply key =
    let entries = key.stream.entries in
    let first = end_of false entries in
    let last = end_of true entries in
    let groups = length key.groups.entries in
    array (size_part entries ++ (past_part key.stream (end_id first) ++ ends_part groups first last))

-- XINFO CONSUMERS: a consumer, the number of its pending entries, and the time since it was last given something
abbrev pub consumer_reply : ConsumerReport → Reply
consumer_reply consumer =
    array (Bulk (codes "name") ∷ Bulk consumer.consumer
    ∷ Bulk (codes "pending") ∷ Int consumer.pending
    ∷ Bulk (codes "idle") ∷ Int consumer.idle ∷ [])

-- the consumers of a group, in the order of their names
abbrev pub consumers_reply : ℕ → GroupState → Reply
consumers_reply now group = array (map consumer_reply (consumer_reports now group))
