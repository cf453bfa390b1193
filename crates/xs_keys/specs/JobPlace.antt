-- The places of a job: an entry in a group. (Redis Streams, "Consumer groups"; XPENDING.)
use Rattle.std.specs.Prelude.{◌≡◌, true, false, not, List, Option, Some, None, is_some, if◌then◌else◌}
use Rattle.xs_keys.specs.Terms.{Id, is_below, has_id, ids_of}
use Rattle.xs_keys.specs.Life.{KeyLife, key_life, added_in, present_entries}
use Rattle.xs_keys.specs.GroupEvent.{delivered_ids, cursor}
use Rattle.xs_keys.specs.Owner.{last_assignee, owner}
use Rattle.xs_keys.specs.GroupLife.{GroupLife, group_life}
use Rattle.xs_keys.specs.Event.{Bytes, History}

-- the place of an entry in a life of a group
pub data Place : Type 0 where
  before_start : Place  -- at or below the start: not the group's
  waiting : Place  -- in the stream, and its turn is still to come
  dropped : Place  -- deleted or trimmed before its turn
  handed_out : Place  -- delivered with NOACK: nobody owes an acknowledgement
  pending : Bytes → Place  -- delivered, and pending with this consumer
  settled : Place  -- acknowledged, given up with its consumer, or found deleted by a claim

-- the place of a delivered entry: from the consumer to whom it was last assigned, and the one that has it
abbrev pub place_of_delivered : Option Bytes → Option Bytes → Place
place_of_delivered None has = handed_out
place_of_delivered (Some last) None = settled
place_of_delivered (Some last) (Some consumer) = pending consumer

-- the place of an entry, by the life of the group and the ids in the stream
abbrev pub place_of : GroupLife → List Id → Id → Place
place_of life present x =
    if not (is_below life.start x) then before_start
    else (if has_id (delivered_ids life.start life.events) x
    then place_of_delivered (last_assignee life.start life.events x) (owner life.start life.events x)
    else (if has_id present x then waiting else dropped))

-- what each place means, without `place_of`
abbrev pub StandsAt : GroupLife → List Id → Id → Place → Type 0
StandsAt life present x before_start = is_below life.start x ≡ false
StandsAt life present x waiting = (has_id present x ≡ true) × (is_below (cursor life.start life.events) x ≡ true)
StandsAt life present x dropped =
    (is_below life.start x ≡ true) × (has_id present x ≡ false)
    × (has_id (delivered_ids life.start life.events) x ≡ false)
StandsAt life present x handed_out =
    (has_id (delivered_ids life.start life.events) x ≡ true) × (last_assignee life.start life.events x ≡ None)
StandsAt life present x (pending consumer) = owner life.start life.events x ≡ Some consumer
StandsAt life present x settled =
    (is_some (last_assignee life.start life.events x) ≡ true) × (owner life.start life.events x ≡ None)

-- an entry is at one place, and at no other
abbrev pub HasOnePlace : GroupLife → List Id → Id → Type 0
HasOnePlace life present x =
    StandsAt life present x (place_of life present x)
    × ((other : Place) → StandsAt life present x other → other ≡ place_of life present x)

-- the place of an entry, by the open lives of its key and of the group; None if it wasn't added, or no life is open
abbrev pub place_in : Option KeyLife → Option GroupLife → Id → Option Place
place_in (Some past) (Some life) x =
    if has_id (ids_of (added_in past)) x then Some (place_of life (ids_of (present_entries past)) x) else None
place_in _ _ x = None

-- its place after a history
abbrev pub place_after : History → Bytes → Bytes → Id → Option Place
place_after past key group x = place_in (key_life past key) (group_life past key group) x
