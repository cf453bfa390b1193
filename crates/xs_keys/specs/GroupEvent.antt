-- The events of a group, and the group by looking back over them: deliveries, cursor, consumers and rows.
use Rattle.std.specs.Prelude.{ℕ, Bool, false, not, List, [], Option, Some, None, true, ◌&&◌, ◌||◌, ◌∷◌, ◌++◌, if◌then◌else◌}
use Rattle.xs_group.specs.declared.claims.Claim.{Claim}
use Rattle.xs_keys.specs.Terms.{Id, RowState, with_some, is_below}
use Rattle.xs_keys.specs.Terms.{greatest}
use Rattle.xs_keys.specs.Event.{Bytes, PendingEntries}
use Rattle.xs_keys.specs.GroupAsk.{GroupAsk, new_ids_of_ask, claim_of_ask, scan_end_of_ask, adds_consumer, gives}
use Rattle.xs_keys.specs.GroupAsk.{deletes_consumer}
use Rattle.xs_keys.specs.GroupAsk.{row_after_ask}

-- what is asked of a group, at a moment, with the ids that are then in the stream
pub record GroupEvent : Type 0 where
  pub now : ℕ
  pub present : List Id
  pub ask : GroupAsk

-- the new ids that an event delivers at a cursor
abbrev pub new_ids_of_event : GroupEvent → Id → List Id
new_ids_of_event event cursor = new_ids_of_ask event.ask event.present cursor

-- what an event claims, from the rows that it meets
abbrev pub claim_of_event : GroupEvent → PendingEntries → Claim
claim_of_event event rows = claim_of_ask event.ask event.now event.present rows

-- where the next scan starts, from the rows that it meets
abbrev pub scan_end_of_event : GroupEvent → PendingEntries → Id
scan_end_of_event event rows = scan_end_of_ask event.ask event.now event.present rows

-- all ids delivered as new since the start, in the order of the reads
abbrev pub delivered_ids : Id → List GroupEvent → List Id
delivered_ids start [] = []
delivered_ids start (event ∷ past) =
    delivered_ids start past ++ new_ids_of_event event (greatest start (delivered_ids start past))

-- the greatest of the start and of all ids delivered
abbrev pub cursor : Id → List GroupEvent → Id
cursor start past = greatest start (delivered_ids start past)

-- the event is the turn of the id: the cursor passes from below the id to it or above it
abbrev pub is_turn_of : Id → List GroupEvent → GroupEvent → Id → Bool
is_turn_of start past event x = is_below (cursor start past) x && not (is_below (cursor start (event ∷ past)) x)

-- the consumer was added, and not deleted later
abbrev pub is_consumer : List GroupEvent → Bytes → Bool
is_consumer [] name = false
is_consumer (event ∷ past) name =
    if deletes_consumer event.ask name
    then false
    else (if adds_consumer event.ask name then true else is_consumer past name)

-- the rows of those ids that have one
abbrev pub rows_among : (Id → Option RowState) → List Id → PendingEntries
rows_among row_of [] = []
rows_among row_of (x ∷ xs) = with_some x (row_of x) (rows_among row_of xs)

-- the row of an id after these events, carried forward: each event changes it by `row_after_ask`
abbrev pub pending_row_at : Id → List GroupEvent → Id → Option RowState
pending_row_at start [] x = None
pending_row_at start (event ∷ past) x =
    let before = rows_among (λ y. pending_row_at start past y) (delivered_ids start past) in
    row_after_ask event.ask event.now event.present (cursor start past) before x (pending_row_at start past x)

-- all rows, in the order of their ids
abbrev pub rows : Id → List GroupEvent → PendingEntries
rows start past = rows_among (λ x. pending_row_at start past x) (delivered_ids start past)

-- the moment when a consumer was created, or the last event gave it something
abbrev pub seen_at : Id → List GroupEvent → Bytes → Option ℕ
seen_at start [] name = None
seen_at start (event ∷ past) name =
    let given = gives event.ask event.now event.present (cursor start past) (rows start past) in
    if deletes_consumer event.ask name then None
    else (if adds_consumer event.ask name && (given || not (is_consumer past name)) then Some event.now
    else seen_at start past name)
