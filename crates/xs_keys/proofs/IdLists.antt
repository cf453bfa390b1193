-- Lists of ids that ascend.
use Rattle.std.proofs.Common.{◌≡◌, ℕ, zero, suc, Bool, true, false, cond, ◌&&◌, ◌||◌, List, [], ◌∷◌, ◌++◌, filter, take}
use Rattle.std.proofs.Common.{Option, Some, None, sym, ap, ◌∙◌, refl}
use Rattle.std.proofs.lemmas.Bool.{false≢true, and_right}
use Rattle.xs_stream.specs.Id.{is_below, is_same_id, has_id}
use Rattle.xs_stream.proofs.Order.{is_same_id-eq, is_same_id-symm, below-not_same, up_to-below, not_above-trans}
use Rattle.xs_group.specs.GroupState.{new_ids, last_of}
use Rattle.xs_keys.specs.Terms.{Id, Ascends, AllAbove, AllUpTo, up_to_limit}
use Rattle.xs_keys.specs.Terms.{greatest}

above-filter : (p : Id → Bool) (a : Id) (xs : List Id) → AllAbove a xs → AllAbove a (filter p xs)
above-filter p a [] h = tt
above-filter p a (x ∷ xs) h = by (p x) (above-filter p a xs h.1) where
  by : (t : Bool) → AllAbove a (filter p xs) → AllAbove a (cond t (x ∷ filter p xs) (filter p xs))
  by true rest = (h.0, rest)
  by false rest = rest

pub ascends-where : (p : Id → Bool) (xs : List Id) → Ascends xs → Ascends (filter p xs)
ascends-where p [] h = tt
ascends-where p (x ∷ xs) h = by (p x) (ascends-where p xs h.1) where
  by : (t : Bool) → Ascends (filter p xs) → Ascends (cond t (x ∷ filter p xs) (filter p xs))
  by true rest = (above-filter p x xs h.0, rest)
  by false rest = rest

above-where : (a : Id) (xs : List Id) → AllAbove a (filter (λ x. is_below a x) xs)
above-where a [] = tt
above-where a (x ∷ xs) = by (is_below a x) refl (above-where a xs) where
  by : (t : Bool) → is_below a x ≡ t → AllAbove a (filter (λ y. is_below a y) xs) → AllAbove a (cond t (x ∷ filter (λ y. is_below a y) xs) (filter (λ y. is_below a y) xs))
  by true e rest = (e, rest)
  by false e rest = rest

above-take : (n : ℕ) (a : Id) (xs : List Id) → AllAbove a xs → AllAbove a (take n xs)
above-take zero a xs h = tt
above-take (suc n) a [] h = tt
above-take (suc n) a (x ∷ xs) h = (h.0, above-take n a xs h.1)

ascends-take : (n : ℕ) (xs : List Id) → Ascends xs → Ascends (take n xs)
ascends-take zero xs h = tt
ascends-take (suc n) [] h = tt
ascends-take (suc n) (x ∷ xs) h = (above-take n x xs h.0, ascends-take n xs h.1)

above-limited : (limit : Option ℕ) (a : Id) (xs : List Id) → AllAbove a xs → AllAbove a (up_to_limit limit xs)
above-limited None a xs h = h
above-limited (Some n) a xs h = above-take n a xs h

pub ascends-limited : (limit : Option ℕ) (xs : List Id) → Ascends xs → Ascends (up_to_limit limit xs)
ascends-limited None xs h = h
ascends-limited (Some n) xs h = ascends-take n xs h

-- what is delivered is above the cursor, and ascends
pub above-new_ids : (limit : Option ℕ) (a : Id) (present : List Id) → AllAbove a (new_ids limit a present)
above-new_ids limit a present = above-limited limit a _ (above-where a present)

pub ascends-new_ids : (limit : Option ℕ) (a : Id) (present : List Id) → Ascends present → Ascends (new_ids limit a present)
ascends-new_ids limit a present h = ascends-limited limit _ (ascends-where (λ x. is_below a x) present h)

-- ---- the greatest of an id and those above it

pub greatest-last : (a : Id) (xs : List Id) → AllAbove a xs → Ascends xs → greatest a xs ≡ last_of a xs
greatest-last a [] h k = refl
greatest-last a (x ∷ xs) h k = ap (λ b. greatest (cond b x a) xs) h.0 ∙ greatest-last x xs k.0 k.1

-- ---- up to an id

pub up_to-append : (a : Id) (xs ys : List Id) → AllUpTo a xs → AllUpTo a ys → AllUpTo a (xs ++ ys)
up_to-append a [] ys h k = k
up_to-append a (x ∷ xs) ys h k = (h.0, up_to-append a xs ys h.1 k)

pub up_to-raise : (a b : Id) (xs : List Id) → is_below b a ≡ false → AllUpTo a xs → AllUpTo b xs
up_to-raise a b [] e h = tt
up_to-raise a b (x ∷ xs) e h = (not_above-trans b a x e h.0, up_to-raise a b xs e h.1)

pub above-lower : (a b : Id) (xs : List Id) → is_below b a ≡ false → AllAbove b xs → AllAbove a xs
above-lower a b [] e h = tt
above-lower a b (x ∷ xs) e h = (up_to-below b a x e h.0, above-lower a b xs e h.1)

-- an id up to a isn't one of those above it
pub not_above : (a x : Id) (xs : List Id) → is_below a x ≡ false → AllAbove a xs → has_id xs x ≡ false
not_above a x [] e h = refl
not_above a x (y ∷ ys) e h = rw (below-not_same x y (up_to-below a x y e h.0)) (not_above a x ys e h.1)

-- one list after another, divided by an id
pub ascends-append : (a : Id) (xs ys : List Id) → Ascends xs → AllUpTo a xs → Ascends ys → AllAbove a ys → Ascends (xs ++ ys)
ascends-append a [] ys h up k above = k
ascends-append a (x ∷ xs) ys h up k above = (both xs h.0, ascends-append a xs ys h.1 up.1 k above) where
  both : (zs : List Id) → AllAbove x zs → AllAbove x (zs ++ ys)
  both [] p = above-lower x a ys up.0 above
  both (z ∷ zs) p = (p.0, both zs p.1)

pub has_id-append : (xs ys : List Id) (x : Id) → has_id (xs ++ ys) x ≡ (has_id xs x || has_id ys x)
has_id-append [] ys x = refl
has_id-append (y ∷ xs) ys x = by (is_same_id x y) (has_id-append xs ys x) where
  by : (t : Bool) → has_id (xs ++ ys) x ≡ (has_id xs x || has_id ys x) → (t || has_id (xs ++ ys) x) ≡ ((t || has_id xs x) || has_id ys x)
  by true e = refl
  by false e = e

pub above-append : (a : Id) (xs ys : List Id) → AllAbove a xs → AllAbove a ys → AllAbove a (xs ++ ys)
above-append a [] ys h k = k
above-append a (x ∷ xs) ys h k = (h.0, above-append a xs ys h.1 k)

-- an id above a isn't one of those up to it
pub not_among : (a : Id) (xs : List Id) (x : Id) → is_below a x ≡ true → AllUpTo a xs → has_id xs x ≡ false
not_among a [] x e up = refl
not_among a (y ∷ ys) x e up =
    rw (is_same_id-symm x y, below-not_same y x (up_to-below a y x up.0 e)) (not_among a ys x e up.1)

-- ids that pass a test
pub has_id-where : (p : Id → Bool) (xs : List Id) (x : Id) → has_id (filter p xs) x ≡ (p x && has_id xs x)
has_id-where p [] x = sym (and_right (p x) false refl)
has_id-where p (y ∷ ys) x = by (p y) refl (is_same_id x y) refl (has_id-where p ys x) where
  by : (t : Bool) → p y ≡ t → (s : Bool) → is_same_id x y ≡ s → has_id (filter p ys) x ≡ (p x && has_id ys x)
      → has_id (cond t (y ∷ filter p ys) (filter p ys)) x ≡ (p x && (is_same_id x y || has_id ys x))
  by true e true s rest = rw (s, is_same_id-eq x y s, e) refl
  by true e false s rest = rw s rest
  by false e true s rest =
      let not_it : p x ≡ false = ap p (is_same_id-eq x y s) ∙ e in
      rest ∙ ap (λ b. b && has_id ys x) not_it ∙ sym (ap (λ b. b && (is_same_id x y || has_id ys x)) not_it)
  by false e false s rest = rw s rest

-- ---- the first of a list

-- an id up to the last of the first ones is among them exactly if it is in the list
pub take-up_to : (n : ℕ) (xs : List Id) (a x : Id) → AllAbove a xs → Ascends xs → is_below a x ≡ true → is_below (greatest a (take n xs)) x ≡ false → has_id (take n xs) x ≡ has_id xs x
take-up_to zero xs a x above asc low high = absurd (false≢true (sym high ∙ low))
take-up_to (suc n) [] a x above asc low high = refl
take-up_to (suc n) (y ∷ ys) a x above asc low high =
    by (is_below y x) refl (ap (λ b. greatest (cond b y a) (take n ys)) above.0) (λ e. take-up_to n ys y x asc.0 asc.1 e) where
      by : (t : Bool) → is_below y x ≡ t → greatest a (y ∷ take n ys) ≡ greatest y (take n ys) → (is_below y x ≡ true → is_below (greatest y (take n ys)) x ≡ false → has_id (take n ys) x ≡ has_id ys x)
          → (is_same_id x y || has_id (take n ys) x) ≡ (is_same_id x y || has_id ys x)
      by true e g rest = ap (λ b. is_same_id x y || b) (rest e (ap (λ c. is_below c x) (sym g) ∙ high))
      by false e g rest = λ i. is_same_id x y || (not_above y x (take n ys) e (above-take n y ys asc.0) ∙ sym (not_above y x ys e asc.0)) i

pub limited-up_to : (limit : Option ℕ) (xs : List Id) (a x : Id) → AllAbove a xs → Ascends xs → is_below a x ≡ true → is_below (greatest a (up_to_limit limit xs)) x ≡ false → has_id (up_to_limit limit xs) x ≡ has_id xs x
limited-up_to None xs a x above asc low high = refl
limited-up_to (Some n) xs a x above asc low high = take-up_to n xs a x above asc low high

pub new_ids-up_to : (limit : Option ℕ) (present : List Id) (a x : Id) → Ascends present → is_below a x ≡ true → is_below (greatest a (new_ids limit a present)) x ≡ false
    → has_id (new_ids limit a present) x ≡ has_id present x
new_ids-up_to limit present a x asc low high =
    limited-up_to limit _ a x (above-where a present) (ascends-where (λ y. is_below a y) present asc) low high
    ∙ has_id-where (λ y. is_below a y) present x ∙ ap (λ b. b && has_id present x) low
