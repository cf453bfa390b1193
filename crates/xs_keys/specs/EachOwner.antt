-- Each owner: an entry that is pending has exactly one until it is settled. (Redis Streams, "Consumer groups"; XACK;
-- XCLAIM; XAUTOCLAIM.)
use Rattle.std.specs.Prelude.{◌≡◌, Bool, true, false, ◌⊎◌, Some, not, ◌||◌, List, [], ◌∷◌, ◌++◌, None, is_some}
use Rattle.xs_keys.specs.Terms.{Id, option_map}
use Rattle.xs_group.specs.Claims.{row_at}
use Rattle.xs_keys.specs.TimesAndCounts.{AreOfLastTouch}
use Rattle.xs_keys.specs.ClaimsTake.{ClaimsAreExact}
use Rattle.xs_keys.specs.GroupEvent.{GroupEvent, rows}
use Rattle.xs_keys.specs.GroupAsk.{consumer_of}
use Rattle.xs_keys.specs.Owner.{is_made_pending_by, is_taken_by_claim, may_settle_entry, owner}
use Rattle.xs_keys.specs.GroupLife.{GroupLife}
use Rattle.xs_keys.specs.Event.{Bytes}
use Rattle.xs_keys.specs.AtEach.{AtEach}

-- one of these later events settles it
abbrev pub is_settled_in : Id → List GroupEvent → List GroupEvent → Id → Bool
is_settled_in start [] before x = false
is_settled_in start (event ∷ rest) before x =
    may_settle_entry start (rest ++ before) event x || is_settled_in start rest before x

-- after a delivery without NOACK there is an owner exactly as long as nothing has settled the entry
abbrev pub OwnedUntilSettled : Id → List GroupEvent → Type 0
OwnedUntilSettled start events =
    (later : List GroupEvent) (event : GroupEvent) (earlier : List GroupEvent) (x : Id)
    → events ≡ later ++ event ∷ earlier
    → is_made_pending_by start earlier event x ≡ true
    → is_some (owner start events x) ≡ not (is_settled_in start later (event ∷ earlier) x)

-- the owner after one event: the same, or none because the event settles the entry, or the consumer whose claim takes
-- it
abbrev pub OwnerAfter : Id → List GroupEvent → GroupEvent → Id → Bytes → Type 0
OwnerAfter start past event x name =
    (owner start (event ∷ past) x ≡ Some name)
    ⊎ (((may_settle_entry start past event x ≡ true) × (owner start (event ∷ past) x ≡ None))
    ⊎ ((is_taken_by_claim start past event x ≡ true) × (owner start (event ∷ past) x ≡ consumer_of event.ask)))

-- after an event, an entry that had no owner has none, unless the event delivers it without NOACK
abbrev pub AfterNoOwner : Id → List GroupEvent → GroupEvent → Id → Type 0
AfterNoOwner start past event x =
    (owner start (event ∷ past) x ≡ None)
    ⊎ ((is_made_pending_by start past event x ≡ true) × (owner start (event ∷ past) x ≡ consumer_of event.ask))

-- the owner changes only by a claim, and comes only by a delivery; and what is delivered without NOACK, or taken by a
-- claim, belongs to the consumer that asked
abbrev pub ChangesByClaims : Id → List GroupEvent → Type 0
ChangesByClaims start events = AtEach events (λ earlier event.
    (x : Id)
    → ((name : Bytes) → owner start earlier x ≡ Some name → OwnerAfter start earlier event x name)
    × (owner start earlier x ≡ None → AfterNoOwner start earlier event x)
    × ((is_made_pending_by start earlier event x || is_taken_by_claim start earlier event x) ≡ true
    → owner start (event ∷ earlier) x ≡ consumer_of event.ask))

-- an entry has an owner exactly if it is pending, and the owner is the consumer of its pending row
abbrev pub IsPendingWithOwner : Id → List GroupEvent → Type 0
IsPendingWithOwner start events =
    (x : Id) → owner start events x ≡ option_map (λ row. row.consumer) (row_at (rows start events) x)

-- a pending entry has one owner until it is settled, whom only claims change; its time and its count are those of the
-- event that touched it last; and claims are exact
pub record OwnersAndClaims (life : GroupLife) : Type 0 where
  pub is_pending : IsPendingWithOwner life.start life.events
  pub is_last_touched : AreOfLastTouch life.start life.events
  pub claims_are_exact : ClaimsAreExact life.start life.events
  pub until_settled : OwnedUntilSettled life.start life.events
  pub by_claims : ChangesByClaims life.start life.events
