-- Places of answers.
use Rattle.std.proofs.Common.{◌≡◌, ℕ, ◌+◌, ◌<◌, Bool, true, false, not, ◌==◌, List, [], ◌∷◌, ◌++◌, length, map}
use Rattle.std.proofs.Common.{sym, ap, ◌∙◌, refl, arith, append_assoc}
use Rattle.xs_resp.specs.declared.reply.Reply.{Reply}
use Rattle.xs_session.specs.declared.places.Place.{Place}
use Rattle.xs_session.specs.declared.places.Place.TheVariants.{Answer, Awaits, AwaitsKeys}
use Rattle.xs_session.specs.Places.{is_open, has_open, answered, fill_first, places_of, IsSettled, NoneReady}

-- an answer that is begun waits for nothing
pub begun-open : (begun : List Reply) (places : List Place) → has_open (map Answer begun ++ places) ≡ has_open places
begun-open [] places = refl
begun-open (reply ∷ begun) places = begun-open begun places

pub begun-fill : (begun : List Reply) (places : List Place) (reply : Reply) → fill_first reply (map Answer begun ++ places) ≡ map Answer begun ++ fill_first reply places
begun-fill [] places reply = refl
begun-fill (other ∷ begun) places reply = ap (λ p. Answer other ∷ p) (begun-fill begun places reply)

pub begun-more : (begun : List Reply) (places : List Place) (reply : Reply) → map Answer begun ++ Answer reply ∷ places ≡ map Answer (begun ++ reply ∷ []) ++ places
begun-more [] places reply = refl
begun-more (other ∷ begun) places reply = ap (λ p. Answer other ∷ p) (begun-more begun places reply)

-- if no place is waited for and no answer is there, there is no place
pub none-left : (places : List Place) → NoneReady places → has_open places ≡ false → places ≡ []
none-left [] none closed = refl
none-left (Answer reply ∷ places) none closed = absurd none
none-left (Awaits ∷ places) none closed = let e : true ≡ false = closed in cc
none-left (AwaitsKeys told ∷ places) none closed = let e : true ≡ false = closed in cc

-- an answer moves to the front
pub settles : (ready : List Reply) (reply : Reply) (behind : List Place) → places_of (ready ++ reply ∷ []) behind ≡ places_of ready (Answer reply ∷ behind)
settles ready reply behind = sym (begun-more ready behind reply)

-- places with one more
pub places-more : (ready : List Reply) (behind : List Place) (one : Place) → places_of ready (behind ++ one ∷ []) ≡ places_of ready behind ++ one ∷ []
places-more ready behind one = sym (append_assoc (map Answer ready) behind (one ∷ []))

pub places-ready : (ready : List Reply) (reply : Reply) → places_of (ready ++ reply ∷ []) [] ≡ places_of ready [] ++ Answer reply ∷ []
places-ready [] reply = refl
places-ready (other ∷ ready) reply = ap (λ p. Answer other ∷ p) (places-ready ready reply)

-- the reply has come for which the first place waits
pub places-filled : (ready : List Reply) (place : Place) (behind : List Place) (reply : Reply) → is_open place ≡ true → places_of (ready ++ answered place reply ∷ []) behind ≡ fill_first reply (places_of ready (place ∷ behind))
places-filled [] (Answer other) behind reply waits = let e : false ≡ true = waits in cc
places-filled [] Awaits behind reply waits = refl
places-filled [] (AwaitsKeys told) behind reply waits = refl
places-filled (other ∷ ready) place behind reply waits = ap (λ p. Answer other ∷ p) (places-filled ready place behind reply waits)

-- in a settled list, something is waited for if anything is in `behind`
pub open-behind : (ready : List Reply) (behind : List Place) → IsSettled behind → has_open (places_of ready behind) ≡ true → (place : Place) × (others : List Place) × (behind ≡ place ∷ others) × (is_open place ≡ true)
open-behind [] [] settled waits = let e : false ≡ true = waits in cc
open-behind [] (Awaits ∷ behind) settled waits = (Awaits, behind, refl, refl)
open-behind [] (AwaitsKeys told ∷ behind) settled waits = (AwaitsKeys told, behind, refl, refl)
open-behind [] (Answer reply ∷ behind) settled waits = absurd settled
open-behind (reply ∷ ready) behind settled waits = open-behind ready behind settled waits

pub closed-behind : (ready : List Reply) (behind : List Place) → IsSettled behind → 0 < length behind → has_open (places_of ready behind) ≡ true
closed-behind [] [] settled some = absurd (omega (arith, some))
closed-behind [] (Awaits ∷ behind) settled some = refl
closed-behind [] (AwaitsKeys told ∷ behind) settled some = refl
closed-behind [] (Answer reply ∷ behind) settled some = absurd settled
closed-behind (reply ∷ ready) behind settled some = closed-behind ready behind settled some

pub none-behind : (ready : List Reply) → has_open (places_of ready []) ≡ false
none-behind [] = refl
none-behind (reply ∷ ready) = none-behind ready

pub places-length : (ready : List Reply) (behind : List Place) → length (places_of ready behind) ≡ length ready + length behind
places-length [] [] = refl
places-length [] (one ∷ behind) = let e = places-length [] behind in omega (arith, e)
places-length (reply ∷ ready) behind = let e = places-length ready behind in omega (arith, e)

pub none-ready : (behind : List Place) → IsSettled behind → NoneReady (places_of [] behind)
none-ready [] settled = tt
none-ready (Awaits ∷ behind) settled = tt
none-ready (AwaitsKeys told ∷ behind) settled = tt
none-ready (Answer reply ∷ behind) settled = absurd settled

some-test : (behind : List Place) (count : ℕ) → count ≡ length behind → 0 < count → not (count == 0) ≡ true
some-test behind count is some = grind arith

-- whether anything is in `behind`
pub is-open : (ready : List Reply) (behind : List Place) (count : ℕ) (result : Bool) → count ≡ length behind → IsSettled behind → result ≡ not (count == 0) → result ≡ has_open (places_of ready behind)
is-open ready [] count result is settled e = e ∙ ap (λ k. not (k == 0)) is ∙ sym (none-behind ready)
is-open ready (place ∷ behind) count result is settled e =
    e ∙ some-test (place ∷ behind) count is (omega (arith, is)) ∙ sym (closed-behind ready (place ∷ behind) settled (omega arith))
