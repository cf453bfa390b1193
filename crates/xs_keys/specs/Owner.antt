-- The owner of an entry, by looking back: a delivery or a claim assigns the entry, and it is settled later. (Redis
-- Streams, "Consumer groups"; XACK; XCLAIM.)
use Rattle.std.specs.Prelude.{Bool, false, List, [], Option, None, ◌&&◌, ◌||◌, ◌∷◌, is_some, if◌then◌else◌}
use Rattle.xs_keys.specs.Terms.{option_map_or, Id, has_id}
use Rattle.xs_keys.specs.Event.{Bytes}
use Rattle.xs_keys.specs.GroupEvent.{GroupEvent, new_ids_of_event, claim_of_event, cursor, rows}
use Rattle.xs_keys.specs.GroupAsk.{consumer_of, reads_without_noack, is_acknowledgement_of, deletes_consumer}

-- the event delivers the entry, without NOACK
abbrev pub is_made_pending_by : Id → List GroupEvent → GroupEvent → Id → Bool
is_made_pending_by start past event x =
    reads_without_noack event.ask && has_id (new_ids_of_event event (cursor start past)) x

-- the event is a claim that takes it
abbrev pub is_taken_by_claim : Id → List GroupEvent → GroupEvent → Id → Bool
is_taken_by_claim start past event x = has_id (claim_of_event event (rows start past)).take x

-- the event delivers the entry without NOACK, or takes it by a claim
abbrev pub is_assigned_by : Id → List GroupEvent → GroupEvent → Id → Bool
is_assigned_by start past event x = is_made_pending_by start past event x || is_taken_by_claim start past event x

-- the consumer to whom it was last assigned
abbrev pub last_assignee : Id → List GroupEvent → Id → Option Bytes
last_assignee start [] x = None
last_assignee start (event ∷ past) x =
    if is_assigned_by start past event x then consumer_of event.ask else last_assignee start past x

-- the event deletes this consumer
abbrev pub is_deletion_of : GroupEvent → Option Bytes → Bool
is_deletion_of event consumer = option_map_or (deletes_consumer event.ask) consumer false

-- the event is a claim that removes it, because it has left the stream
abbrev pub is_removed_by_claim : Id → List GroupEvent → GroupEvent → Id → Bool
is_removed_by_claim start past event x = has_id (claim_of_event event (rows start past)).removed x

-- the event settles the entry if it still has an owner: it acknowledges an entry that was assigned, deletes the
-- consumer to whom it was last assigned, or removes it by a claim
abbrev pub may_settle_entry : Id → List GroupEvent → GroupEvent → Id → Bool
may_settle_entry start past event x =
    (is_acknowledgement_of event.ask x && is_some (last_assignee start past x))
    || (is_deletion_of event (last_assignee start past x) || is_removed_by_claim start past event x)

-- an event has settled it since it was last assigned
abbrev pub is_settled : Id → List GroupEvent → Id → Bool
is_settled start [] x = false
is_settled start (event ∷ past) x =
    if is_assigned_by start past event x then false else may_settle_entry start past event x || is_settled start past x

-- the consumer to whom it was last assigned, if nothing has settled it since
abbrev pub owner : Id → List GroupEvent → Id → Option Bytes
owner start past x = if is_settled start past x then None else last_assignee start past x
