-- The part that a scan reaches, and the cursor at which the next one goes on.
use Rattle.std.proofs.Common.{◌≡◌, ℕ, ◌++◌, Bool, true, false, cond, ◌||◌, List, [], ◌∷◌, map, sym, ap, subst, ◌∙◌}
use Rattle.std.proofs.Common.{refl}
use Rattle.std.proofs.lemmas.List.{append-nil}
use Rattle.std.proofs.lemmas.Bool.{false≢true, or_right}
use Rattle.xs_stream.specs.Id.{is_below, is_same_id, has_id, zero_id}
use Rattle.xs_stream.proofs.Order.{is_same_id-eq, is_same_id-refl, below-not_back, below-irrefl}
use Rattle.xs_group.specs.Claims.{is_enough, prefixes, first_where, scanned_part, first_or_zero}
use Rattle.xs_keys.specs.Terms.{Id, Ascends}
use Rattle.xs_keys.specs.ClaimsTake.{passes}
use Rattle.xs_keys.proofs.IdLists.{has_id-append}
use Rattle.xs_keys.proofs.IdsAtEvents.{above-has}
use Rattle.xs_keys.proofs.Refusals.{first-below}

-- ---- what is scanned is a beginning

abbrev pub Begins : List Id → List Id → Type 0
Begins part ids = (rest : List Id) × (ids ≡ part ++ rest)

AllBegin : List Id → List (List Id) → Type 0
AllBegin ids [] = Unit {0}
AllBegin ids (part ∷ parts) = Begins part ids × AllBegin ids parts

begin-more : (x : Id) (ids : List Id) (parts : List (List Id)) → AllBegin ids parts → AllBegin (x ∷ ids) (map (λ part. x ∷ part) parts)
unfolding AllBegin
begin-more x ids [] h = tt
begin-more x ids (part ∷ parts) h = ((h.0.0, ap (λ t. x ∷ t) h.0.1), begin-more x ids parts h.1)

prefixes-begin : (ids : List Id) → AllBegin ids (prefixes ids)
unfolding AllBegin
prefixes-begin [] = (([], refl), tt)
prefixes-begin (x ∷ xs) = ((x ∷ xs, refl), begin-more x xs (prefixes xs) (prefixes-begin xs))

first-begins : (test : List Id → Bool) (other ids : List Id) (parts : List (List Id)) → Begins other ids → AllBegin ids parts → Begins (first_where test other parts) ids
unfolding AllBegin
first-begins test other ids [] o h = o
first-begins test other ids (part ∷ parts) o h = by (test part) (first-begins test other ids parts o h.1) where
  by : (t : Bool) → Begins (first_where test other parts) ids → Begins (cond t part (first_where test other parts)) ids
  by true rest = h.0
  by false rest = rest

pub scanned-begins : (hit : Id → Bool) (limit : ℕ) (ids : List Id) → Begins (scanned_part hit limit ids) ids
scanned-begins hit limit ids = first-begins (is_enough hit limit) ids ids (prefixes ids) ([], sym (append-nil ids)) (prefixes-begin ids)

-- ---- the cursor

pub above-not_zero : (a x : Id) → is_below a x ≡ true → is_same_id x zero_id ≡ false
above-not_zero a x above = by (is_same_id x zero_id) refl (is_same_id a zero_id) refl where
  by : (t : Bool) → is_same_id x zero_id ≡ t → (s : Bool) → is_same_id a zero_id ≡ s → t ≡ false
  by false e s f = refl
  by true e true f = absurd (false≢true (sym (below-irrefl zero_id) ∙ (λ i. is_below (sym (is_same_id-eq a zero_id f) i) (sym (is_same_id-eq x zero_id e) i)) ∙ above))
  by true e false f = absurd (false≢true (
      sym (below-not_back zero_id a (first-below a (λ is. false≢true (sym f ∙ ap (λ b. is_same_id b zero_id) is ∙ is_same_id-refl zero_id))))
      ∙ ap (is_below a) (sym (is_same_id-eq x zero_id e)) ∙ above))

-- each of the ids isn't 0-0
abbrev pub AreNotZero : List Id → Type 0
AreNotZero ids = (x : Id) → has_id ids x ≡ true → is_same_id x zero_id ≡ false

below-later : (part : List Id) (y : Id) (ys : List Id) → Ascends (part ++ y ∷ ys) → (x : Id) → has_id part x ≡ true → is_below x y ≡ true
below-later [] y ys asc x h = absurd (false≢true h)
below-later (p ∷ ps) y ys asc x h = by (is_same_id x p) refl h (below-later ps y ys asc.1 x) where
  last : has_id (ps ++ y ∷ ys) y ≡ true
  last = has_id-append ps (y ∷ ys) y ∙ or_right (has_id ps y) (is_same_id y y || has_id ys y) (ap (λ t. t || has_id ys y) (is_same_id-refl y))

  by : (t : Bool) → is_same_id x p ≡ t → (t || has_id ps x) ≡ true → (has_id ps x ≡ true → is_below x y ≡ true) → is_below x y ≡ true
  by true e g rest = ap (λ z. is_below z y) (is_same_id-eq x p e) ∙ above-has p (ps ++ y ∷ ys) y asc.0 last
  by false e g rest = rest g

ascends-later : (part rest : List Id) → Ascends (part ++ rest) → Ascends rest
ascends-later [] rest asc = asc
ascends-later (p ∷ ps) rest asc = ascends-later ps rest asc.1

-- a scan has reached what is before its cursor, and nothing else
pub before-part : (part rest : List Id) → Ascends (part ++ rest) → (x : Id) → has_id part x ≡ true → passes (first_or_zero rest) x ≡ true
before-part part [] asc x h = ap (λ t. t || is_below x zero_id) (is_same_id-refl zero_id)
before-part part (y ∷ ys) asc x h = or_right (is_same_id y zero_id) (is_below x y) (below-later part y ys asc x h)

pub part-before : (part rest : List Id) → Ascends (part ++ rest) → AreNotZero (part ++ rest) → (x : Id) → has_id (part ++ rest) x ≡ true
    → passes (first_or_zero rest) x ≡ true → has_id part x ≡ true
part-before part [] asc not_zero x h before = subst (λ ids. has_id ids x ≡ true) (append-nil part) h
part-before part (y ∷ ys) asc not_zero x h before = by (has_id part x) refl (sym (has_id-append part (y ∷ ys) x) ∙ h) where
  y_there : has_id (part ++ y ∷ ys) y ≡ true
  y_there = has_id-append part (y ∷ ys) y ∙ or_right (has_id part y) (is_same_id y y || has_id ys y) (ap (λ t. t || has_id ys y) (is_same_id-refl y))

  low : is_below x y ≡ true
  low = ap (λ t. t || is_below x y) (sym (not_zero y y_there)) ∙ before

  not_later : (t : Bool) → is_same_id x y ≡ t → (t || has_id ys x) ≡ true → false ≡ true
  not_later true e g = sym (below-irrefl y) ∙ ap (λ z. is_below z y) (sym (is_same_id-eq x y e)) ∙ low
  not_later false e g = sym (below-not_back y x (above-has y ys x (ascends-later part (y ∷ ys) asc).0 g)) ∙ low

  by : (t : Bool) → has_id part x ≡ t → (t || has_id (y ∷ ys) x) ≡ true → t ≡ true
  by true e g = refl
  by false e g = not_later (is_same_id x y) refl g
