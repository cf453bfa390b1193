-- The result of a read of a group, and the group after the read is undone.
use Rattle.std.specs.Prelude.{◌≡◌, ℕ, Bool, true, not, ◌⊎◌, List, [], ◌∷◌, map, Option, Some, None, if◌then◌else◌}
use Rattle.std.specs.Option.{option_map}
use Rattle.xs_bytes.specs.SortedMap.{get, change, remove, insert}
use Rattle.xs_stream.specs.declared.id.Id.{Id}
use Rattle.xs_stream.specs.Id.{is_same_id, has_id}
use Rattle.xs_group.specs.declared.delivery.Touch.{Touch}
use Rattle.xs_group.specs.declared.delivery.DeliveryRow.{DeliveryRow}
use Rattle.xs_group.specs.declared.delivery.DeliveryKind.{DeliveryKind}
use Rattle.xs_group.specs.declared.delivery.DeliveryKind.TheVariants.{New, NoAck, History}
use Rattle.xs_group.specs.declared.delivery.Delivery.{Delivery}
use Rattle.xs_group.specs.GroupState.{RowState, Rows, Consumers, GroupState, has_name, with_name, is_any, next_count}
use Rattle.xs_group.specs.GroupState.{new_ids, group_after_delivery, reread_ids, group_after_reread, last_of, with_rows}
use Rattle.xs_group.specs.GroupState.{first_row}
use Rattle.xs_group.specs.GroupState.{unless_acked, unless_owned}
use Rattle.xs_group.specs.Indexes.{PendingList}
use Rattle.xs_group.specs.ConsistentGroup.{IsConsistentGroup}

-- an entry that is delivered for the first time
abbrev pub new_row : Id → DeliveryRow
new_row x = record { id = x; present = true; before = None }

abbrev pub new_rows : List Id → List DeliveryRow
new_rows ids = map new_row ids

-- a group after these ids were delivered
abbrev pub group_after_read : List ℕ → ℕ → Bool → List Id → GroupState → GroupState
group_after_read consumer now noack ids group =
    record {
      cursor = last_of group.cursor ids;
      consumers = with_name group.consumers consumer now (is_any ids);
      rows = if noack then group.rows else with_rows ids (first_row consumer now) group.rows;
    }

abbrev pub kind_of : Bool → DeliveryKind
kind_of noack = if noack then NoAck else New

-- the result of a read of new entries
abbrev pub delivery_of : List ℕ → Option ℕ → Bool → List Id → GroupState → Delivery
delivery_of consumer limit noack present group =
    record {
      consumer = consumer;
      created = not (has_name group.consumers consumer);
      seen_before = get group.consumers consumer;
      cursor_before = group.cursor;
      kind = kind_of noack;
      rows = new_rows (new_ids limit group.cursor present);
    }

abbrev pub touch_of : Option RowState → Option Touch
touch_of row = option_map (λ r. record { time = r.time; count = r.count }) row

-- an entry of the consumer's own that is shown
abbrev pub shown_row : Rows → List Id → Id → DeliveryRow
shown_row rows present x = record { id = x; present = has_id present x; before = touch_of (get rows x) }

abbrev pub shown_rows : Rows → List Id → List Id → List DeliveryRow
shown_rows rows present ids = map (shown_row rows present) ids

-- the result of a read of the consumer's own entries
abbrev pub history_of : List ℕ → Option ℕ → Id → List Id → GroupState → Delivery
history_of consumer limit from present group =
    record {
      consumer = consumer;
      created = not (has_name group.consumers consumer);
      seen_before = get group.consumers consumer;
      cursor_before = group.cursor;
      kind = History;
      rows = shown_rows group.rows present (reread_ids consumer limit from group.rows.entries);
    }

-- a read of new entries changed the group so, and returned this delivery
pub record IsDelivered (before after : GroupState) (delivery : Delivery) : Type 0 where
  pub now : ℕ
  pub limit : Option ℕ
  pub noack : Bool
  pub ids : List Id
  pub left : after ≡ group_after_delivery delivery.consumer now limit noack ids before
  pub answered : delivery ≡ delivery_of delivery.consumer limit noack ids before

-- a read of the consumer's own entries did
pub record IsReread (before after : GroupState) (delivery : Delivery) : Type 0 where
  pub now : ℕ
  pub limit : Option ℕ
  pub from : Id
  pub ids : List Id
  pub left : after ≡ group_after_reread delivery.consumer now limit from ids before
  pub answered : delivery ≡ history_of delivery.consumer limit from ids before

-- a read changed a consistent group so, and returned this delivery
abbrev pub IsMade : GroupState → GroupState → Delivery → Type 0
IsMade before after delivery =
    IsConsistentGroup before × (IsDelivered before after delivery ⊎ IsReread before after delivery)

-- ---- times and counts that are set

-- the time and the count that a row gets by a delivery at a moment, or gets back if that is None
abbrev pub touch_set : Option ℕ → DeliveryRow → Option Touch
touch_set (Some now) row =
    if row.present then option_map (λ t. record { time = now; count = next_count t.count }) row.before else None
touch_set None row = row.before

abbrev pub with_touch : Touch → RowState → RowState
with_touch touch row = record { consumer = row.consumer; time = touch.time; count = touch.count }

abbrev pub row_after_touch : Id → Touch → Id → RowState → Option RowState
row_after_touch id touch x row = if is_same_id x id then Some (with_touch touch row) else Some row

abbrev pub set_one : Id → Option Touch → Rows → Rows
set_one id None rows = rows
set_one id (Some touch) rows = change (row_after_touch id touch) rows

-- each of these rows set
abbrev pub set_rows : Option ℕ → List DeliveryRow → Rows → Rows
set_rows now [] rows = rows
set_rows now (r ∷ rs) rows = set_rows now rs (set_one r.id (touch_set now r) rows)

abbrev pub row_ids : List DeliveryRow → List Id
row_ids rows = map (λ r. r.id) rows

-- rows without the changes of a read
abbrev pub rows_taken_back : DeliveryKind → List DeliveryRow → Rows → Rows
rows_taken_back New rows held = change (unless_acked (row_ids rows)) held
rows_taken_back NoAck rows held = held
rows_taken_back History rows held = set_rows None rows held

-- a consumer of the group gets another moment
abbrev pub with_seen : Consumers → List ℕ → ℕ → Consumers
with_seen consumers name seen = if has_name consumers name then insert consumers name seen else consumers

-- with the moment of the consumer before the read, or without the consumer if the read created it
abbrev pub with_consumer_before : Option ℕ → List ℕ → PendingList → PendingList
with_consumer_before None consumer held =
    record { consumers = remove held.consumers consumer; rows = change (unless_owned consumer) held.rows }
with_consumer_before (Some seen) consumer held =
    record { consumers = with_seen held.consumers consumer seen; rows = held.rows }

abbrev pub list_without_delivery : Delivery → PendingList → PendingList
list_without_delivery delivery held =
    with_consumer_before delivery.seen_before delivery.consumer (record {
      consumers = held.consumers;
      rows = rows_taken_back delivery.kind delivery.rows held.rows;
    })
