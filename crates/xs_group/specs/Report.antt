-- What is pending, and with whom. (Redis, XPENDING: "Summary form", "Extended form"; XINFO CONSUMERS.)
use Rattle.std.specs.Prelude.{ℕ, Bool, true, ◌&&◌, List, [], ◌∷◌, map, filter, take, length, nat_le, nat_lt, Option}
use Rattle.std.specs.Prelude.{Some, None}
use Rattle.xs_bytes.specs.SortedMap.{keys}
use Rattle.xs_stream.specs.declared.id.Id.{Id}
use Rattle.xs_stream.specs.declared.range.Range.{Range}
use Rattle.xs_stream.specs.StreamContent.{is_within}
use Rattle.xs_group.specs.declared.reports.OwnerCount.{OwnerCount}
use Rattle.xs_group.specs.declared.reports.GroupSummary.{GroupSummary}
use Rattle.xs_group.specs.declared.reports.PendingRow.{PendingRow}
use Rattle.xs_group.specs.declared.reports.ConsumerReport.{ConsumerReport}
use Rattle.xs_group.specs.GroupState.{RowState, GroupState, is_same_name, idle_time, ids_of_consumer}

abbrev pub first_id : List (Id × RowState) → Option Id
first_id [] = None
first_id (e ∷ es) = Some e.0

abbrev pub last_id : List (Id × RowState) → Option Id
last_id [] = None
last_id (e ∷ []) = Some e.0
last_id (e ∷ f ∷ es) = last_id (f ∷ es)

-- each of these consumers with the number of its rows
abbrev pub counts_of_owners : List (List ℕ) → List (Id × RowState) → List OwnerCount
counts_of_owners names rows = map (λ name. record { consumer = name; count = length (ids_of_consumer name rows) }) names

-- the number of rows of a consumer
abbrev pub owned_count : List ℕ → GroupState → ℕ
owned_count consumer group = length (ids_of_consumer consumer group.rows.entries)

-- XINFO CONSUMERS: each consumer with the number of its rows, its moment, and the time since
abbrev pub consumer_report : ℕ → GroupState → List ℕ × ℕ → ConsumerReport
consumer_report now group c =
    record { consumer = c.0; pending = owned_count c.0 group; seen = c.1; idle = idle_time now c.1 }

abbrev pub consumer_reports : ℕ → GroupState → List ConsumerReport
consumer_reports now group = map (consumer_report now group) group.consumers.entries

-- the summary: the number of rows, the least and the greatest id, and the consumers that have rows, in the order of
-- their bytes
abbrev pub summary_of : GroupState → GroupSummary
summary_of group =
    let rows = group.rows.entries in
    let owners = filter (λ owner. nat_lt 0 owner.count) (counts_of_owners (keys group.consumers) rows) in
    record { total = length rows; least = first_id rows; greatest = last_id rows; owners = owners }

-- the row's consumer is the given one; any, if none is given
abbrev pub is_of : Option (List ℕ) → RowState → Bool
is_of None row = true
is_of (Some consumer) row = is_same_name row.consumer consumer

abbrev pub pending_row : ℕ → Id × RowState → PendingRow
pending_row now e =
    record {
      id = e.0;
      consumer = e.1.consumer;
      time = e.1.time;
      idle = idle_time now e.1.time;
      count = e.1.count;
    }

-- a row in a range that is idle for long enough, of the given consumer, if one is given
abbrev pub is_selected : Range → ℕ → ℕ → Option (List ℕ) → Id × RowState → Bool
is_selected range min_idle now consumer e =
    is_within range e.0 && (nat_le min_idle (idle_time now e.1.time) && is_of consumer e.1)

-- XPENDING, the long form: at most `limit` of the selected rows
abbrev pub pending_of : Range → ℕ → ℕ → ℕ → Option (List ℕ) → GroupState → List PendingRow
pending_of range min_idle now limit consumer group =
    take limit (map (pending_row now) (filter (is_selected range min_idle now consumer) group.rows.entries))
