-- Each entry has one place in a group, and the numbers of entries at the places add up. (Redis Streams, "Consumer
-- groups"; XPENDING.)
use Rattle.std.specs.Prelude.{◌≡◌, ℕ, ◌+◌, Bool, true, false, List, ◌∷◌, filter, map, length, Some, None}
use Rattle.xs_group.specs.GroupState.{ids_of_consumer}
use Rattle.xs_keys.specs.Terms.{Id, is_below, has_id, ids_of, is_same_name, new_ids, Pending, Reply, Int}
use Rattle.xs_keys.specs.Life.{KeyLife, key_life, added_in, present_entries}
use Rattle.xs_keys.specs.GroupEvent.{cursor, rows}
use Rattle.xs_keys.specs.GroupLife.{GroupLife, group_life}
use Rattle.xs_keys.specs.Content.{Content}
use Rattle.xs_keys.specs.ReplyParts.{array}
use Rattle.xs_keys.specs.Reply.{reply}
use Rattle.xs_keys.specs.Event.{Bytes, History}
use Rattle.xs_keys.specs.JobPlace.{Place, before_start, waiting, dropped, handed_out, pending, settled, place_of}
use Rattle.xs_keys.specs.JobPlace.{HasOnePlace}
use Rattle.xs_keys.specs.AtEach.{AtEachTime}

-- the same place
abbrev pub is_same_place : Place → Place → Bool
is_same_place before_start before_start = true
is_same_place waiting waiting = true
is_same_place dropped dropped = true
is_same_place handed_out handed_out = true
is_same_place (pending one) (pending other) = is_same_name other one
is_same_place settled settled = true
is_same_place _ _ = false

-- pending, with any consumer
abbrev pub is_pending : Place → Bool
is_pending (pending consumer) = true
is_pending _ = false

-- the ids ever added whose entries are at such a place, in their order
abbrev pub jobs_at : (Place → Bool) → KeyLife → GroupLife → List Id
jobs_at at stream life = filter (λ x. at (place_of life (ids_of (present_entries stream)) x)) (ids_of (added_in stream))

-- what waits is what a read without COUNT would deliver now; what is pending are the rows that XPENDING shows, of each
-- consumer its own; and with what was dropped, handed out and settled they are all ids added above the start
pub record PlacesAddUp (stream : KeyLife) (life : GroupLife) : Type 0 where
  pub waiting_are :
      jobs_at (is_same_place waiting) stream life
      ≡ new_ids None (cursor life.start life.events) (ids_of (present_entries stream))
  pub pending_are : jobs_at is_pending stream life ≡ map (λ e. e.0) (rows life.start life.events)
  pub of_consumers : (consumer : Bytes) →
      jobs_at (is_same_place (pending consumer)) stream life ≡ ids_of_consumer consumer (rows life.start life.events)
  pub add_up : length (filter (λ x. is_below life.start x) (ids_of (added_in stream)))
      ≡ length (jobs_at (is_same_place waiting) stream life) + (length (jobs_at (is_same_place dropped) stream life)
      + (length (jobs_at (is_same_place handed_out) stream life) + (length (rows life.start life.events)
      + length (jobs_at (is_same_place settled) stream life))))

-- XPENDING of the group reports this number first
abbrev pub TellsPending : Content → ℕ → Bytes → Bytes → ℕ → Type 0
TellsPending content now key group n =
    (rest : List Reply) × (reply content now (Pending key group) ≡ array (Int n ∷ rest))

-- each entry that was ever added to a stream has one place in a group, and the places add up
pub record HasItsPlaces (stream : KeyLife) (life : GroupLife) : Type 0 where
  pub one_place :
      (x : Id) → has_id (ids_of (added_in stream)) x ≡ true → HasOnePlace life (ids_of (present_entries stream)) x
  pub places_add_up : PlacesAddUp stream life

-- at each time of a history each entry has one place in each group
abbrev pub EachHasAPlace : History → Type 0
EachHasAPlace history = AtEachTime history (λ past.
    (key group : Bytes) (stream : KeyLife) (life : GroupLife)
    → key_life past key ≡ Some stream → group_life past key group ≡ Some life → HasItsPlaces stream life)
