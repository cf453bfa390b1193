-- Each delivery of new entries: in id order, each once, and in full. (Redis, XREADGROUP.)
use Rattle.std.specs.Prelude.{◌≡◌, ℕ, ◌≤◌, Bool, true, false, ◌⊎◌, Option, Some, List, ◌∷◌, ◌++◌, length}
use Rattle.xs_keys.specs.Terms.{Id, is_below, has_id, Ascends, AllAbove}
use Rattle.xs_keys.specs.GroupEvent.{GroupEvent, delivered_ids, new_ids_of_event, cursor, is_turn_of}
use Rattle.xs_keys.specs.GroupAsk.{read_new}
use Rattle.xs_keys.specs.GroupLife.{GroupLife}
use Rattle.xs_keys.specs.Event.{Bytes}
use Rattle.xs_keys.specs.AtEach.{AtEach}

-- one of the events is the turn of the id, and it was delivered exactly if it was in the stream then
pub record HadItsTurn (start : Id) (events : List GroupEvent) (x : Id) : Type 0 where
  pub later : List GroupEvent
  pub event : GroupEvent
  pub earlier : List GroupEvent
  pub among : events ≡ later ++ event ∷ earlier
  pub is_turn : is_turn_of start earlier event x ≡ true
  pub delivered_if_present : has_id (delivered_ids start events) x ≡ has_id event.present x

-- a read of new entries delivers as many as it asks for, or leaves no entry in the stream above the cursor; and it
-- never delivers more than it asks for
abbrev pub DeliversInFull : Id → List GroupEvent → Type 0
DeliversInFull start events = AtEach events (λ earlier event.
    (consumer : Bytes) (limit : Option ℕ) (noack : Bool) → event.ask ≡ read_new consumer limit noack
    → ((limit ≡ Some (length (new_ids_of_event event (cursor start earlier))))
    ⊎ ((x : Id) → has_id event.present x ≡ true → is_below (cursor start (event ∷ earlier)) x ≡ false))
    × ((n : ℕ) → limit ≡ Some n → length (new_ids_of_event event (cursor start earlier)) ≤ n))

-- new deliveries: in id order and each once, above the start, exactly the entries in the stream at their turn, and as
-- many as are asked for
pub record DeliversNew (life : GroupLife) : Type 0 where
  pub ascend : Ascends (delivered_ids life.start life.events)
  pub past_start : AllAbove life.start (delivered_ids life.start life.events)
  pub at_their_turn : (x : Id) → is_below life.start x ≡ true → is_below (cursor life.start life.events) x ≡ false
      → HadItsTurn life.start life.events x
  pub in_full : DeliversInFull life.start life.events
