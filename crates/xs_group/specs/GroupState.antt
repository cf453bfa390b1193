-- A group: a cursor, consumers and pending rows; and how reads, acknowledgements and calls for consumers change it.
-- (Redis Streams, "Consumer groups"; XREADGROUP; XACK; XGROUP CREATECONSUMER and DELCONSUMER.)
use Rattle.std.specs.Prelude.{ℕ, ◌+◌, ◌-◌, Bool, true, false, not, List, Option, Some, None, nat_lt, if◌then◌else◌, ◌&&◌}
use Rattle.std.specs.Prelude.{◌||◌, [], ◌∷◌, map, filter}
use Rattle.std.specs.List.{list_any}
use Rattle.std.specs.Ordering.{nat_cmp, eq_by_cmp}
use Rattle.std.specs.Cmp.{IsTotalOrder, nat_cmp_total, on_total, then_total}
use Rattle.std.specs.Cmp.Lexicographic.{slice_cmp}
use Rattle.xs_bytes.specs.SortedMap.{SortedMap, NameMap, empty, insert_by, insert, has_key, change, remove}
use Rattle.xs_stream.specs.declared.id.Id.{Id}
use Rattle.xs_stream.specs.Id.{id_cmp, has_id, is_below}
use Rattle.xs_stream.specs.StreamContent.{up_to_limit}

-- a pending entry: its consumer, and the time and the count of the last delivery, or those that a claim set
pub record RowState : Type 0 where
  pub consumer : List ℕ
  pub time : ℕ
  pub count : ℕ

-- the pending rows, by id
abbrev pub Rows : Type 0
Rows = SortedMap id_cmp RowState

-- the consumers, each with the moment when it was created, or was last given or claimed something
abbrev pub Consumers : Type 0
Consumers = NameMap ℕ

pub record GroupState : Type 0 where
  pub cursor : Id
  pub consumers : Consumers
  pub rows : Rows

abbrev pub ids_total : IsTotalOrder id_cmp
ids_total = then_total (on_total (λ s. s.ms) nat_cmp_total) (on_total (λ s. s.seq) nat_cmp_total)

abbrev pub has_name : Consumers → List ℕ → Bool
has_name consumers name = has_key consumers name

-- the consumer is in the group afterwards; its moment is now if it is new, or is given something
abbrev pub with_name : Consumers → List ℕ → ℕ → Bool → Consumers
with_name consumers name now given =
    if given || not (has_name consumers name) then insert consumers name now else consumers

-- whether there are any
abbrev pub is_any : List Id → Bool
is_any [] = false
is_any (x ∷ xs) = true

-- the same name
abbrev pub is_same_name : List ℕ → List ℕ → Bool
is_same_name a b = eq_by_cmp (slice_cmp nat_cmp) a b

-- now minus the time of a row, which its last delivery or a claim gave it; 0 if the time is later
abbrev pub idle_time : ℕ → ℕ → ℕ
idle_time now time = now - time

-- a count stops at this value
abbrev pub greatest_count : ℕ
greatest_count = 9223372036854775807

-- one delivery more
abbrev pub next_count : ℕ → ℕ
next_count count = if nat_lt count greatest_count then count + 1 else greatest_count

-- a new group
abbrev pub new_group : Id → GroupState
new_group start = record { cursor = start; consumers = empty; rows = empty }

-- the consumer is in the group afterwards
abbrev pub with_consumer : List ℕ → ℕ → GroupState → GroupState
with_consumer consumer now group = record group { consumers = with_name group.consumers consumer now false }

-- an acknowledged row is removed
abbrev pub unless_acked : List Id → Id → RowState → Option RowState
unless_acked ids x row = if has_id ids x then None else Some row

abbrev pub group_after_ack : List Id → GroupState → GroupState
group_after_ack ids group = record group { rows = change (unless_acked ids) group.rows }

-- a row of a removed consumer is removed
abbrev pub unless_owned : List ℕ → Id → RowState → Option RowState
unless_owned consumer x row = if is_same_name row.consumer consumer then None else Some row

abbrev pub without_consumer : List ℕ → GroupState → GroupState
without_consumer consumer group =
    record group { consumers = remove group.consumers consumer; rows = change (unless_owned consumer) group.rows }

-- the ids that `>` delivers: those of the stream above the cursor, up to the limit
abbrev pub new_ids : Option ℕ → Id → List Id → List Id
new_ids limit cursor present = up_to_limit limit (filter (λ x. is_below cursor x) present)

-- the last of these ids, or the one before them if there are none
abbrev pub last_of : Id → List Id → Id
last_of a [] = a
last_of a (x ∷ xs) = last_of x xs

-- a first delivery
abbrev pub first_row : List ℕ → ℕ → RowState
first_row consumer now = record { consumer = consumer; time = now; count = 1 }

-- the same new row at each of these ids
abbrev pub with_rows : List Id → RowState → Rows → Rows
with_rows [] row rows = rows
with_rows (x ∷ xs) row rows = with_rows xs row (insert_by ids_total rows x row)

-- a group after a read of new entries: it has the consumer, the cursor is the last id delivered, and without NOACK the
-- ids are pending
abbrev pub group_after_delivery : List ℕ → ℕ → Option ℕ → Bool → List Id → GroupState → GroupState
group_after_delivery consumer now limit noack present group =
    let ids = new_ids limit group.cursor present in
    let rows = if noack then group.rows else with_rows ids (first_row consumer now) group.rows in
    record {
      cursor = last_of group.cursor ids;
      consumers = with_name group.consumers consumer now (is_any ids);
      rows = rows;
    }

-- the ids of these rows that a consumer has
abbrev pub ids_of_consumer : List ℕ → List (Id × RowState) → List Id
ids_of_consumer consumer rows = map (λ e. e.0) (filter (λ e. is_same_name e.1.consumer consumer) rows)

-- the ids that a read of own entries shows: the consumer's pending ids above an id, up to the limit
abbrev pub reread_ids : List ℕ → Option ℕ → Id → List (Id × RowState) → List Id
reread_ids consumer limit from rows = up_to_limit limit (filter (λ x. is_below from x) (ids_of_consumer consumer rows))

-- a row that is delivered once more
abbrev pub redelivered_row : ℕ → RowState → RowState
redelivered_row now row = record { consumer = row.consumer; time = now; count = next_count row.count }

-- a row after these ids were shown: it is delivered once more if its entry is in the stream
abbrev pub row_after_reread : ℕ → List Id → List Id → Id → RowState → Option RowState
row_after_reread now ids present x row =
    if has_id ids x && has_id present x then Some (redelivered_row now row) else Some row

-- a group after a read of a consumer's own entries
abbrev pub group_after_reread : List ℕ → ℕ → Option ℕ → Id → List Id → GroupState → GroupState
group_after_reread consumer now limit from present group =
    let ids = reread_ids consumer limit from group.rows.entries in
    record group {
      consumers = with_name group.consumers consumer now (list_any (has_id present) ids);
      rows = change (row_after_reread now ids present) group.rows;
    }
