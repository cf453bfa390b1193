-- The time and the delivery count of a pending entry, by looking back for the last event that touched it. (Redis
-- Streams, "Consumer groups": the pending entries list; XPENDING; XCLAIM.)
use Rattle.std.specs.Prelude.{◌≡◌, ℕ, Bool, List, [], ◌∷◌, Some, ◌&&◌, ◌||◌, if◌then◌else◌}
use Rattle.xs_group.specs.Claims.{row_at, claim_time, claim_count}
use Rattle.xs_group.specs.GroupState.{next_count}
use Rattle.xs_keys.specs.Terms.{option_map_or, Id, RowState, has_id, reread_ids}
use Rattle.xs_keys.specs.GroupAsk.{GroupAsk, read_new, read_own, rule_of}
use Rattle.xs_keys.specs.GroupEvent.{GroupEvent, rows}
use Rattle.xs_keys.specs.Owner.{is_assigned_by}
use Rattle.xs_keys.specs.Event.{PendingEntries}

-- the consumer's own pending ids that an ask shows once more, from the rows that it meets
abbrev pub own_ids_shown : GroupAsk → PendingEntries → List Id
own_ids_shown (read_own consumer limit from) rows = reread_ids consumer limit from rows
own_ids_shown _ rows = []

-- the event delivers the entry once more to the consumer that has it: it is shown, and still in the stream
abbrev pub is_redelivered_by : Id → List GroupEvent → GroupEvent → Id → Bool
is_redelivered_by start past event x = has_id (own_ids_shown event.ask (rows start past)) x && has_id event.present x

-- the event delivers the entry without NOACK, takes it by a claim, or delivers it once more
abbrev pub is_touched_by : Id → List GroupEvent → GroupEvent → Id → Bool
is_touched_by start past event x = is_assigned_by start past event x || is_redelivered_by start past event x

-- the time that it gets: that of the claim, else now
abbrev pub time_of_touch : GroupAsk → ℕ → ℕ
time_of_touch ask now = option_map_or (λ rule. claim_time rule.when now) (rule_of ask) now

-- the count that it gets: 1 at its delivery, that of the claim, else one more
abbrev pub count_of_touch : GroupAsk → ℕ → ℕ
count_of_touch (read_new consumer limit noack) count = 1
count_of_touch ask count = option_map_or (λ r. claim_count r.retry r.just_id count) (rule_of ask) (next_count count)

-- the time that it got from the last event that touched it
abbrev pub time_of : Id → List GroupEvent → Id → ℕ
time_of start [] x = 0
time_of start (event ∷ past) x =
    if is_touched_by start past event x then time_of_touch event.ask event.now else time_of start past x

-- the count that it got from the last event that touched it
abbrev pub count_of : Id → List GroupEvent → Id → ℕ
count_of start [] x = 0
count_of start (event ∷ past) x =
    if is_touched_by start past event x then count_of_touch event.ask (count_of start past x) else count_of start past x

-- the time and the count of a pending row are those of the event that touched it last
abbrev pub AreOfLastTouch : Id → List GroupEvent → Type 0
AreOfLastTouch start events =
    (x : Id) (row : RowState) → row_at (rows start events) x ≡ Some row
    → (row.time ≡ time_of start events x) × (row.count ≡ count_of start events x)
