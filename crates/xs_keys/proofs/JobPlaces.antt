-- The place of an entry: there is only one, and an event of the group moves it along an arrow.
use Rattle.std.proofs.Common.{◌≡◌, ℕ, Bool, true, false, cond, not, ◌&&◌, ◌||◌, List, [], ◌∷◌, Option, Some, None}
use Rattle.std.proofs.Common.{is_some, sym, ap, ◌∙◌, refl}
use Rattle.std.proofs.lemmas.Bool.{false≢true, or_left, or_right}
use Rattle.xs_stream.proofs.Order.{up_to-below}
use Rattle.xs_keys.specs.Terms.{Id, is_below, has_id, ids_of}
use Rattle.xs_keys.specs.Life.{StreamEvent, present_entries}
use Rattle.xs_keys.specs.GroupEvent.{GroupEvent, new_ids_of_event, delivered_ids, cursor, rows}
use Rattle.xs_keys.specs.GroupAsk.{consumer_of, reads_without_noack}
use Rattle.xs_keys.specs.Owner.{is_taken_by_claim, last_assignee, may_settle_entry, is_settled, owner}
use Rattle.xs_keys.specs.GroupLife.{GroupLife}
use Rattle.xs_keys.specs.JobPlace.{Place, before_start, waiting, dropped, handed_out, pending, settled}
use Rattle.xs_keys.specs.JobPlace.{place_of_delivered, place_of, StandsAt, HasOnePlace}
use Rattle.xs_keys.proofs.IdLists.{has_id-append, not_among}
use Rattle.xs_keys.proofs.GroupSteps.{up_to-delivered}
use Rattle.xs_keys.proofs.Deliveries.{PresentAscends, start-up, past-start}
use Rattle.xs_keys.proofs.Owners.{owned-delivered, assigned-again, taken-owned, owner-step, taken-unsettled}
use Rattle.xs_keys.proofs.Owners.{pending-named, claim-named}
use Rattle.xs_keys.proofs.IdsAtEvents.{Sees, none-stranded, asked-present, above-has}

-- ---- who has what was delivered

-- what was assigned was delivered
pub assigned-delivered : (start : Id) (events : List GroupEvent) (x : Id) → is_some (last_assignee start events x) ≡ true → has_id (delivered_ids start events) x ≡ true
assigned-delivered start [] x e = absurd (false≢true e)
assigned-delivered start (event ∷ past) x e =
    has_id-append (delivered_ids start past) (new_ids_of_event event (cursor start past)) x
    ∙ by (has_id (new_ids_of_event event (cursor start past)) x) refl (reads_without_noack event.ask) refl (is_taken_by_claim start past event x) refl (assigned-delivered start past x)
  where
    by : (n : Bool) → has_id (new_ids_of_event event (cursor start past)) x ≡ n → (k : Bool) → reads_without_noack event.ask ≡ k → (t : Bool) → is_taken_by_claim start past event x ≡ t
        → (is_some (last_assignee start past x) ≡ true → has_id (delivered_ids start past) x ≡ true)
        → (has_id (delivered_ids start past) x || has_id (new_ids_of_event event (cursor start past)) x) ≡ true
    by true n k f t g before = or_right _ _ n
    by false n k f true g before = or_left _ _ (owned-delivered start past x (taken-owned start past event x g))
    by false n k f false g before = or_left _ _ (before (ap is_some (sym (not_assigned k f)) ∙ e)) where
      not_assigned : (k : Bool) → reads_without_noack event.ask ≡ k → last_assignee start (event ∷ past) x ≡ last_assignee start past x
      not_assigned true f = λ i. cond ((f i && n i) || g i) (consumer_of event.ask) (last_assignee start past x)
      not_assigned false f = λ i. cond ((f i && n i) || g i) (consumer_of event.ask) (last_assignee start past x)

-- the owner is the consumer to whom it was last assigned
pub owner-last : (start : Id) (events : List GroupEvent) (x : Id) (name : List ℕ) → owner start events x ≡ Some name → last_assignee start events x ≡ Some name
owner-last start events x name e = by (is_settled start events x) e where
  by : (s : Bool) → cond s None (last_assignee start events x) ≡ Some name → last_assignee start events x ≡ Some name
  by true f = absurd (false≢true (ap is_some f))
  by false f = f

-- ---- one place

-- a delivered entry is above the start
past : (start : Id) (events : List GroupEvent) (x : Id) → has_id (delivered_ids start events) x ≡ true → is_below start x ≡ true
past start events x e = above-has start (delivered_ids start events) x (past-start start events) e

-- the place, by what is known of the entry
abbrev pub place_by : Bool → Bool → Bool → Option (List ℕ) → Option (List ℕ) → Place
place_by above went there last has = cond (not above) before_start (cond went (place_of_delivered last has) (cond there waiting dropped))

abbrev pub life_of : Id → List GroupEvent → GroupLife
life_of start events = record { start = start; events = events }

-- the place of a delivered entry
at-delivered : (start : Id) (events : List GroupEvent) (present : List Id) (x : Id) → has_id (delivered_ids start events) x ≡ true
    → place_of (life_of start events) present x ≡ place_of_delivered (last_assignee start events x) (owner start events x)
at-delivered start events present x d = λ i. place_by (past start events x d i) (d i) (has_id present x) (last_assignee start events x) (owner start events x)

nobody : (last : Option (List ℕ)) → is_some last ≡ true → settled ≡ place_of_delivered last None
nobody None e = absurd (false≢true e)
nobody (Some last) e = refl

module _ (start : Id) (events : List GroupEvent) (changes : List StreamEvent) (asc : PresentAscends events) (sees : Sees changes events) (x : Id) where
  is_present-there : (above : Bool) → is_below start x ≡ above → (went : Bool) → has_id (delivered_ids start events) x ≡ went → (there : Bool) → has_id (ids_of (present_entries changes)) x ≡ there
      → (last : Option (List ℕ)) → last_assignee start events x ≡ last → (has : Option (List ℕ)) → owner start events x ≡ has
      → StandsAt (life_of start events) (ids_of (present_entries changes)) x (place_by above went there last has)
  is_present-there false a went d there v last l has o = a
  is_present-there true a true d there v None l has o = (d, l)
  is_present-there true a true d there v (Some last) l None o = (ap is_some l, o)
  is_present-there true a true d there v (Some last) l (Some name) o = o
  is_present-there true a false d false v last l has o = (a, v, d)
  is_present-there true a false d true v last l has o = (v, by (is_below (cursor start events) x) refl) where
    by : (t : Bool) → is_below (cursor start events) x ≡ t → t ≡ true
    by true e = refl
    by false e = absurd (false≢true (sym d ∙ none-stranded start changes events x asc sees a e v))

  is_present-only : (other : Place) → StandsAt (life_of start events) (ids_of (present_entries changes)) x other → other ≡ place_of (life_of start events) (ids_of (present_entries changes)) x
  is_present-only before_start a = λ i. place_by (sym a i) (has_id (delivered_ids start events) x) (has_id (ids_of (present_entries changes)) x) (last_assignee start events x) (owner start events x)
  is_present-only waiting h =
      let above = up_to-below (cursor start events) start x (start-up start events) h.1 in
      let not_yet = not_among (cursor start events) (delivered_ids start events) x h.1 (up_to-delivered start events) in
      λ i. place_by (sym above i) (sym not_yet i) (sym h.0 i) (last_assignee start events x) (owner start events x)
  is_present-only dropped h = λ i. place_by (sym h.0 i) (sym h.2 i) (sym h.1 i) (last_assignee start events x) (owner start events x)
  is_present-only handed_out h = sym (at-delivered start events (ids_of (present_entries changes)) x h.0 ∙ ap (λ last. place_of_delivered last (owner start events x)) h.1)
  is_present-only (pending name) o =
      let last = owner-last start events x name o in
      sym (at-delivered start events (ids_of (present_entries changes)) x (owned-delivered start events x (ap is_some o)) ∙ (λ i. place_of_delivered (last i) (o i)))
  is_present-only settled h =
      nobody (last_assignee start events x) h.0
      ∙ ap (place_of_delivered (last_assignee start events x)) (sym h.1)
      ∙ sym (at-delivered start events (ids_of (present_entries changes)) x (assigned-delivered start events x h.0))

pub has-one-place : (life : GroupLife) (changes : List StreamEvent) → PresentAscends life.events → Sees changes life.events → (x : Id) → HasOnePlace life (ids_of (present_entries changes)) x
has-one-place life changes asc sees x = (
  is_present-there life.start life.events changes asc sees x (is_below life.start x) refl (has_id (delivered_ids life.start life.events) x) refl (has_id (ids_of (present_entries changes)) x) refl
      (last_assignee life.start life.events x) refl (owner life.start life.events x) refl,
  is_present-only life.start life.events changes asc sees x,
)

-- ---- an event of the group

-- how an event of a group moves an entry
pub data Went (start : Id) (past : List GroupEvent) (event : GroupEvent) (x : Id) (here there : Place) : Type 0 where
  stayed : there ≡ here → Went start past event x here there
  was_handed_out : has_id (new_ids_of_event event (cursor start past)) x ≡ true → reads_without_noack event.ask ≡ false → here ≡ waiting → there ≡ handed_out → Went start past event x here there
  was_delivered : has_id (new_ids_of_event event (cursor start past)) x ≡ true → reads_without_noack event.ask ≡ true → (name : List ℕ) → consumer_of event.ask ≡ Some name
      → here ≡ waiting → there ≡ pending name → Went start past event x here there
  was_taken : is_taken_by_claim start past event x ≡ true → (one other : List ℕ) → consumer_of event.ask ≡ Some other → here ≡ pending one → there ≡ pending other → Went start past event x here there
  was_settled : may_settle_entry start past event x ≡ true → (name : List ℕ) → last_assignee start past x ≡ Some name → here ≡ pending name → there ≡ settled → Went start past event x here there

named : (o : Option (List ℕ)) → is_some o ≡ true → (name : List ℕ) × (o ≡ Some name)
named None e = absurd (false≢true e)
named (Some name) e = (name, refl)

module _ (start : Id) (before : List GroupEvent) (event : GroupEvent) (x : Id) (present : List Id) (saw : event.present ≡ present) where
  delivered-after : has_id (delivered_ids start (event ∷ before)) x ≡ (has_id (delivered_ids start before) x || has_id (new_ids_of_event event (cursor start before)) x)
  delivered-after = has_id-append (delivered_ids start before) (new_ids_of_event event (cursor start before)) x

  -- its place after the event, if it was delivered before
  after-delivered : has_id (delivered_ids start before) x ≡ true
      → place_of (life_of start (event ∷ before)) present x
      ≡ place_of_delivered (cond (is_taken_by_claim start before event x) (consumer_of event.ask) (last_assignee start before x))
      (cond (is_taken_by_claim start before event x) (consumer_of event.ask) (cond (may_settle_entry start before event x) None (owner start before x)))
  after-delivered d =
      at-delivered start (event ∷ before) present x (delivered-after ∙ or_left _ _ d)
      ∙ ap (place_of_delivered (last_assignee start (event ∷ before) x)) (owner-step start before event x)
      ∙ ap (λ a. place_of_delivered (cond a (consumer_of event.ask) (last_assignee start before x)) (cond a (consumer_of event.ask) (cond (may_settle_entry start before event x) None (owner start before x))))
      (assigned-again start before event x d)

  Goes : Type 0
  Goes = Went start before event x (place_of (life_of start before) present x) (place_of (life_of start (event ∷ before)) present x)

  -- it was delivered before
  went-delivered : has_id (delivered_ids start before) x ≡ true → Goes
  unfolding Goes
  went-delivered d = by (is_taken_by_claim start before event x) refl (may_settle_entry start before event x) refl (last_assignee start before x) refl (owner start before x) refl where
    here : place_of (life_of start before) present x ≡ place_of_delivered (last_assignee start before x) (owner start before x)
    here = at-delivered start before present x d

    there : place_of (life_of start (event ∷ before)) present x
        ≡ place_of_delivered (cond (is_taken_by_claim start before event x) (consumer_of event.ask) (last_assignee start before x))
        (cond (is_taken_by_claim start before event x) (consumer_of event.ask) (cond (may_settle_entry start before event x) None (owner start before x)))
    there = after-delivered d

    by : (t : Bool) → is_taken_by_claim start before event x ≡ t → (s : Bool) → may_settle_entry start before event x ≡ s
        → (last : Option (List ℕ)) → last_assignee start before x ≡ last → (has : Option (List ℕ)) → owner start before x ≡ has
        → Went start before event x (place_of (life_of start before) present x) (place_of (life_of start (event ∷ before)) present x)
    by true t s f last l None o = absurd (false≢true (ap is_some (sym o) ∙ taken-owned start before event x t))
    by true t s f None l (Some one) o = absurd (false≢true (ap is_some (sym l ∙ owner-last start before x one o)))
    by true t s f (Some last) l (Some one) o =
        let c = named (consumer_of event.ask) (claim-named event.ask event.now event.present (rows start before) x t) in
        was_taken t one c.0 c.1 (here ∙ (λ i. place_of_delivered (l i) (o i)))
        (there ∙ (λ i. place_of_delivered (cond (t i) (c.1 i) (last_assignee start before x)) (cond (t i) (c.1 i) (cond (may_settle_entry start before event x) None (owner start before x)))))
    by false t true s None l has o =
        stayed (there ∙ (λ i. place_of_delivered (cond (t i) (consumer_of event.ask) (l i)) (cond (t i) (consumer_of event.ask) (cond (s i) None (o i))))
        ∙ sym (here ∙ (λ i. place_of_delivered (l i) (o i))))
    by false t true s (Some last) l None o =
        stayed (there ∙ (λ i. place_of_delivered (cond (t i) (consumer_of event.ask) (l i)) (cond (t i) (consumer_of event.ask) (cond (s i) None (o i))))
        ∙ sym (here ∙ (λ i. place_of_delivered (l i) (o i))))
    by false t true s (Some last) l (Some name) o =
        was_settled s name (owner-last start before x name o) (here ∙ (λ i. place_of_delivered (l i) (o i)))
        (there ∙ (λ i. place_of_delivered (cond (t i) (consumer_of event.ask) (l i)) (cond (t i) (consumer_of event.ask) (cond (s i) None (o i)))))
    by false t false s last l has o =
        stayed (there ∙ (λ i. place_of_delivered (cond (t i) (consumer_of event.ask) (last_assignee start before x)) (cond (t i) (consumer_of event.ask) (cond (s i) None (owner start before x)))) ∙ sym here)

  -- it wasn't
  went-undelivered : has_id (delivered_ids start before) x ≡ false → Goes
  unfolding Goes
  went-undelivered d = by (has_id (new_ids_of_event event (cursor start before)) x) refl (reads_without_noack event.ask) refl where
    none_had : owner start before x ≡ None
    none_had = only (owner start before x) refl where
      only : (o : Option (List ℕ)) → owner start before x ≡ o → owner start before x ≡ None
      only None e = e
      only (Some name) e = absurd (false≢true (sym d ∙ owned-delivered start before x (ap is_some e)))

    none_last : last_assignee start before x ≡ None
    none_last = only (last_assignee start before x) refl where
      only : (o : Option (List ℕ)) → last_assignee start before x ≡ o → last_assignee start before x ≡ None
      only None e = e
      only (Some name) e = absurd (false≢true (sym d ∙ assigned-delivered start before x (ap is_some e)))

    not_taken : is_taken_by_claim start before event x ≡ false
    not_taken = only (is_taken_by_claim start before event x) refl where
      only : (t : Bool) → is_taken_by_claim start before event x ≡ t → t ≡ false
      only false e = refl
      only true e = absurd (false≢true (ap is_some (sym none_had) ∙ taken-owned start before event x e))

    by : (n : Bool) → has_id (new_ids_of_event event (cursor start before)) x ≡ n → (k : Bool) → reads_without_noack event.ask ≡ k
        → Went start before event x (place_of (life_of start before) present x) (place_of (life_of start (event ∷ before)) present x)
    by false n k f =
        let after = delivered-after ∙ (λ i. d i || n i) in
        stayed ((λ i. place_by (is_below start x) (after i) (has_id present x) (last_assignee start (event ∷ before) x) (owner start (event ∷ before) x))
        ∙ sym (λ i. place_by (is_below start x) (d i) (has_id present x) (last_assignee start before x) (owner start before x)))
    by true n k f = keeps k f where
      now : has_id (delivered_ids start (event ∷ before)) x ≡ true
      now = delivered-after ∙ or_right _ _ n

      in_stream : has_id present x ≡ true
      in_stream = ap (λ ids. has_id ids x) (sym saw) ∙ asked-present event.ask event.present (cursor start before) x n

      waits : place_of (life_of start before) present x ≡ waiting
      waits = λ i. place_by (past start (event ∷ before) x now i) (d i) (in_stream i) (last_assignee start before x) (owner start before x)

      keeps : (k : Bool) → reads_without_noack event.ask ≡ k → Went start before event x (place_of (life_of start before) present x) (place_of (life_of start (event ∷ before)) present x)
      keeps true f =
          let c = named (consumer_of event.ask) (pending-named event.ask f) in
          was_delivered n f c.0 c.1 waits
          (at-delivered start (event ∷ before) present x now
          ∙ ap (place_of_delivered (last_assignee start (event ∷ before) x)) (owner-step start before event x)
          ∙ (λ i. place_of_delivered (cond ((f i && n i) || is_taken_by_claim start before event x) (c.1 i) (last_assignee start before x))
          (cond ((f i && n i) || is_taken_by_claim start before event x) (c.1 i) (cond (may_settle_entry start before event x) None (owner start before x)))))
      keeps false f =
          was_handed_out n f waits
          (at-delivered start (event ∷ before) present x now
          ∙ (λ i. place_of_delivered (cond ((f i && has_id (new_ids_of_event event (cursor start before)) x) || not_taken i) (consumer_of event.ask) (none_last i)) (owner start (event ∷ before) x)))

  pub went : Went start before event x (place_of (life_of start before) present x) (place_of (life_of start (event ∷ before)) present x)
  unfolding Goes
  went = by (has_id (delivered_ids start before) x) refl where
    by : (d : Bool) → has_id (delivered_ids start before) x ≡ d → Went start before event x (place_of (life_of start before) present x) (place_of (life_of start (event ∷ before)) present x)
    by true d = went-delivered d
    by false d = went-undelivered d

  -- an entry that has an owner and is settled is at the place `settled`
  pub settled-now : (name : List ℕ) → owner start before x ≡ Some name → may_settle_entry start before event x ≡ true → place_of (life_of start (event ∷ before)) present x ≡ settled
  settled-now name o s =
      after-delivered (owned-delivered start before x (ap is_some o))
      ∙ by (is_taken_by_claim start before event x) refl
    where
      by : (t : Bool) → is_taken_by_claim start before event x ≡ t
          → place_of_delivered (cond (is_taken_by_claim start before event x) (consumer_of event.ask) (last_assignee start before x))
          (cond (is_taken_by_claim start before event x) (consumer_of event.ask) (cond (may_settle_entry start before event x) None (owner start before x))) ≡ settled
      by true t = absurd (false≢true (sym (taken-unsettled event.ask event.now event.present (rows start before) x (last_assignee start before x) t) ∙ s))
      by false t =
          let last = owner-last start before x name o in
          λ i. place_of_delivered (cond (t i) (consumer_of event.ask) (last i)) (cond (t i) (consumer_of event.ask) (cond (s i) None (owner start before x)))

-- ---- what a place means

abbrev is_with : Place → Option (List ℕ)
is_with (pending name) = Some name
is_with _ = None

pub pending-owner : (a d t : Bool) (last has : Option (List ℕ)) (name : List ℕ) → place_by a d t last has ≡ pending name → has ≡ Some name
pending-owner false d t last has name e = absurd (false≢true (ap (λ p. is_some (is_with p)) e))
pending-owner true true t None has name e = absurd (false≢true (ap (λ p. is_some (is_with p)) e))
pending-owner true true t (Some last) None name e = absurd (false≢true (ap (λ p. is_some (is_with p)) e))
pending-owner true true t (Some last) (Some one) name e = ap is_with e
pending-owner true false true last has name e = absurd (false≢true (ap (λ p. is_some (is_with p)) e))
pending-owner true false false last has name e = absurd (false≢true (ap (λ p. is_some (is_with p)) e))

abbrev waits : Place → Bool
waits waiting = true
waits _ = false

pub waiting-asked : (a d t : Bool) (last has : Option (List ℕ)) → place_by a d t last has ≡ waiting → (a ≡ true) × (d ≡ false)
waiting-asked false d t last has e = absurd (false≢true (ap waits e))
waiting-asked true true t None has e = absurd (false≢true (ap waits e))
waiting-asked true true t (Some last) None e = absurd (false≢true (ap waits e))
waiting-asked true true t (Some last) (Some name) e = absurd (false≢true (ap waits e))
waiting-asked true false t last has e = (refl, refl)
