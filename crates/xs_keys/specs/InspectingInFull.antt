-- What XINFO STREAM with FULL reports about a key: its entries, its groups with their pending rows, and their consumers
-- with theirs. (Redis, XINFO STREAM.)
use Rattle.std.specs.Prelude.{ℕ, ◌-◌, ◌^◌, false, List, [], ◌∷◌, ◌++◌, map, length, codes, Option, Some, None}
use Rattle.xs_stream.specs.StreamContent.{entries_within}
use Rattle.xs_keys.specs.Terms.{StreamState, GroupState, ConsumerReport, PendingRow, consumer_reports, pending_of, Reply}
use Rattle.xs_keys.specs.Terms.{Int, Bulk}
use Rattle.xs_keys.specs.Content.{KeyState}
use Rattle.xs_keys.specs.Event.{Bytes}
use Rattle.xs_keys.specs.ReplyParts.{array, id_reply, present_reply}
use Rattle.xs_keys.specs.Inspecting.{whole_range, end_of, end_id, size_part, past_part, progress_part}

-- no limit is the greatest number of 64 bits; no group has that many rows
abbrev pub most_of : Option ℕ → ℕ
most_of None = 2 ^ 64 - 1
most_of (Some n) = n

-- the first rows of a group, or of a consumer of it
abbrev pub first_rows : ℕ → Option ℕ → Option Bytes → GroupState → List PendingRow
first_rows now limit consumer group = pending_of whole_range 0 now (most_of limit) consumer group

-- a row of a group: its consumer, its moment and its count
abbrev pub row_reply : PendingRow → Reply
row_reply row = array (id_reply row.id ∷ Bulk row.consumer ∷ Int row.time ∷ Int row.count ∷ [])

-- a row of a consumer
abbrev pub own_row_reply : PendingRow → Reply
own_row_reply row = array (id_reply row.id ∷ Int row.time ∷ Int row.count ∷ [])

-- a consumer with its first rows
abbrev pub consumer_part : ConsumerReport → List PendingRow → List Reply
consumer_part consumer rows =
    Bulk (codes "name") ∷ Bulk consumer.consumer
    ∷ Bulk (codes "seen-time") ∷ Int consumer.seen
    ∷ Bulk (codes "pel-count") ∷ Int consumer.pending
    ∷ Bulk (codes "pending") ∷ array (map own_row_reply rows) ∷ []

abbrev pub whole_consumer_reply : ℕ → Option ℕ → GroupState → ConsumerReport → Reply
whole_consumer_reply now limit group consumer =
    array (consumer_part consumer (first_rows now limit (Some consumer.consumer) group))

-- the number of rows of a group, and the first of them
abbrev pub rows_part : ℕ → List PendingRow → List Reply
rows_part count rows =
    Bulk (codes "pel-count") ∷ Int count ∷ Bulk (codes "pending") ∷ array (map row_reply rows) ∷ []

-- these replies under a name
abbrev pub listed_part : List ℕ → List Reply → List Reply
listed_part name replies = Bulk name ∷ array replies ∷ []

-- a group with its first rows and its consumers
abbrev pub whole_group_reply : ℕ → Option ℕ → StreamState → Bytes × GroupState → Reply
whole_group_reply now limit stream group =
    let consumers = map (whole_consumer_reply now limit group.1) (consumer_reports now group.1) in
    array ((Bulk (codes "name") ∷ Bulk group.0 ∷ progress_part stream group.1.cursor)
    ++ (rows_part (length group.1.rows.entries) (first_rows now limit None group.1)
    ++ listed_part (codes "consumers") consumers))

-- a stream with its first entries and its groups
abbrev pub whole_stream_reply : ℕ → Option ℕ → KeyState → Reply
whole_stream_reply now limit key =
    let entries = key.stream.entries in
    let shown = map present_reply (entries_within whole_range false limit entries) in
    let groups = map (whole_group_reply now limit key.stream) key.groups.entries in
    array (size_part entries ++ (past_part key.stream (end_id (end_of false entries))
    ++ (listed_part (codes "entries") shown ++ listed_part (codes "groups") groups)))
