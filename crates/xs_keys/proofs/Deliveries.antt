-- New deliveries of a life: they ascend, and were in the stream at their turn.
use Rattle.std.proofs.Common.{◌≡◌, Bool, true, false, not, ◌&&◌, List, [], ◌∷◌, sym, ap, ◌∙◌, refl}
use Rattle.std.proofs.lemmas.Bool.{false≢true}
use Rattle.xs_keys.specs.Terms.{Id, is_below, has_id, Ascends, AllAbove}
use Rattle.xs_keys.specs.Terms.{greatest}
use Rattle.xs_keys.specs.GroupAsk.{GroupAsk, read_new, read_own, acknowledge, create_consumer, delete_consumer, claim}
use Rattle.xs_keys.specs.GroupAsk.{auto_claim, new_ids_of_ask}
use Rattle.xs_keys.specs.GroupEvent.{GroupEvent, delivered_ids, cursor, new_ids_of_event}
use Rattle.xs_keys.specs.EachDelivery.{HadItsTurn}
use Rattle.xs_keys.proofs.Truths.{none_or, or_none}
use Rattle.xs_keys.proofs.IdLists.{above-new_ids, ascends-new_ids, ascends-append, above-lower, not_above}
use Rattle.xs_keys.proofs.IdLists.{has_id-append, new_ids-up_to, above-append, not_among}
use Rattle.xs_keys.proofs.Streams.{greatest-up}
use Rattle.xs_keys.proofs.GroupSteps.{up_to-delivered, cursor-step}

-- the ids in the stream at each event ascend
abbrev pub PresentAscends : List GroupEvent → Type 0
PresentAscends [] = Unit {0}
PresentAscends (event ∷ past) = Ascends event.present × PresentAscends past

above-asked : (ask : GroupAsk) (present : List Id) (a : Id) → AllAbove a (new_ids_of_ask ask present a)
above-asked (read_new consumer limit noack) present a = above-new_ids limit a present
above-asked (read_own consumer limit from) present a = tt
above-asked (acknowledge ids) present a = tt
above-asked (create_consumer consumer) present a = tt
above-asked (delete_consumer consumer) present a = tt
above-asked (claim consumer rule ids) present a = tt
above-asked (auto_claim consumer rule start limit) present a = tt

ascends-asked : (ask : GroupAsk) (present : List Id) (a : Id) → Ascends present → Ascends (new_ids_of_ask ask present a)
ascends-asked (read_new consumer limit noack) present a h = ascends-new_ids limit a present h
ascends-asked (read_own consumer limit from) present a h = tt
ascends-asked (acknowledge ids) present a h = tt
ascends-asked (create_consumer consumer) present a h = tt
ascends-asked (delete_consumer consumer) present a h = tt
ascends-asked (claim consumer rule ids) present a h = tt
ascends-asked (auto_claim consumer rule start limit) present a h = tt

-- what an event delivers is above the cursor
pub above-after : (start : Id) (past : List GroupEvent) (event : GroupEvent) → AllAbove (cursor start past) (new_ids_of_event event (cursor start past))
above-after start past event = above-asked event.ask event.present (cursor start past)

pub start-up : (start : Id) (past : List GroupEvent) → is_below (cursor start past) start ≡ false
start-up start past = greatest-up start (delivered_ids start past)

-- deliveries ascend
pub ascends-delivered : (start : Id) (events : List GroupEvent) → PresentAscends events → Ascends (delivered_ids start events)
ascends-delivered start [] h = tt
ascends-delivered start (event ∷ past) h =
    ascends-append (cursor start past) (delivered_ids start past) (new_ids_of_event event (cursor start past)) (ascends-delivered start past h.1) (up_to-delivered start past)
    (ascends-asked event.ask event.present (cursor start past) h.0) (above-after start past event)

-- and are above the start
pub past-start : (start : Id) (events : List GroupEvent) → AllAbove start (delivered_ids start events)
past-start start [] = tt
past-start start (event ∷ past) =
    above-append start (delivered_ids start past) (new_ids_of_event event (cursor start past)) (past-start start past)
    (above-lower start (cursor start past) (new_ids_of_event event (cursor start past)) (start-up start past) (above-after start past event))

-- ---- their turn

-- an id that the cursor passes at an event is delivered exactly if it is in the stream
exactly-at : (ask : GroupAsk) (present : List Id) (a x : Id) → Ascends present → is_below a x ≡ true → is_below (greatest a (new_ids_of_ask ask present a)) x ≡ false
    → has_id (new_ids_of_ask ask present a) x ≡ has_id present x
exactly-at (read_new consumer limit noack) present a x asc low high = new_ids-up_to limit present a x asc low high
exactly-at (read_own consumer limit from) present a x asc low high = absurd (false≢true (sym high ∙ low))
exactly-at (acknowledge ids) present a x asc low high = absurd (false≢true (sym high ∙ low))
exactly-at (create_consumer consumer) present a x asc low high = absurd (false≢true (sym high ∙ low))
exactly-at (delete_consumer consumer) present a x asc low high = absurd (false≢true (sym high ∙ low))
exactly-at (claim consumer rule ids) present a x asc low high = absurd (false≢true (sym high ∙ low))
exactly-at (auto_claim consumer rule start limit) present a x asc low high = absurd (false≢true (sym high ∙ low))

both_turns : (a b : Bool) → a ≡ true → b ≡ false → (a && not b) ≡ true
both_turns a b p q = rw (p, q) refl

-- the cursor passes each id between the start and itself at one of the events
pub had-event : (start : Id) (events : List GroupEvent) (x : Id) → PresentAscends events → is_below start x ≡ true → is_below (cursor start events) x ≡ false → HadItsTurn start events x
had-event start [] x h low high = absurd (false≢true (sym high ∙ low))
had-event start (event ∷ past) x h low high = by (is_below (cursor start past) x) refl (λ up. had-event start past x h.1 low up) where
  new : List Id
  new = new_ids_of_event event (cursor start past)

  -- an id up to the cursor before isn't delivered again
  not_new : is_below (cursor start past) x ≡ false → has_id new x ≡ false
  not_new up = not_above (cursor start past) x new up (above-after start past event)

  -- an id above the cursor before was not delivered before
  not_old : is_below (cursor start past) x ≡ true → has_id (delivered_ids start past) x ≡ false
  not_old e = not_among (cursor start past) (delivered_ids start past) x e (up_to-delivered start past)

  by : (t : Bool) → is_below (cursor start past) x ≡ t → (is_below (cursor start past) x ≡ false → HadItsTurn start past x) → HadItsTurn start (event ∷ past) x
  by true e before = record {
    later = [];
    event = event;
    earlier = past;
    among = refl;
    is_turn = both_turns (is_below (cursor start past) x) (is_below (cursor start (event ∷ past)) x) e high;
    delivered_if_present = has_id-append (delivered_ids start past) new x ∙ none_or _ (has_id new x) (not_old e)
        ∙ exactly-at event.ask event.present (cursor start past) x h.0 e (ap (λ c. is_below c x) (sym (cursor-step start event past)) ∙ high);
  }
  by false e before =
      let had = before e in
      record {
        later = event ∷ had.later;
        event = had.event;
        earlier = had.earlier;
        among = ap (λ ts. event ∷ ts) had.among;
        is_turn = had.is_turn;
        delivered_if_present = has_id-append (delivered_ids start past) new x ∙ or_none _ (has_id new x) (not_new e) ∙ had.delivered_if_present;
      }
