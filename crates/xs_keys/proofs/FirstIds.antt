-- The first of some ids, up to a limit.
use Rattle.std.proofs.Common.{◌≡◌, ◌⊎◌, inl, inr, ℕ, ◌≤◌, Bool, true, false, ◌||◌, List, [], ◌∷◌, length, take, Option}
use Rattle.std.proofs.Common.{Some, None, zero, suc, ap, subst, refl, arith}
use Rattle.std.proofs.lemmas.Bool.{false≢true}
use Rattle.xs_stream.specs.Id.{is_below, is_same_id, has_id}
use Rattle.xs_stream.proofs.Order.{below-not_back}
use Rattle.xs_keys.specs.Terms.{Id, Ascends, AllUpTo, up_to_limit}
use Rattle.xs_keys.specs.Telling.{AreFirst}
use Rattle.xs_keys.proofs.IdLists.{ascends-limited}
use Rattle.xs_keys.proofs.IdsAtEvents.{above-has, limited-has}

-- an id is among the first, or it comes after as many
take-first : (n : ℕ) (xs : List Id) → Ascends xs → (x : Id) → has_id xs x ≡ true → (has_id (take n xs) x ≡ true) ⊎ ((n ≡ length (take n xs)) × AllUpTo x (take n xs))
take-first zero xs asc x h = inr (refl, tt)
take-first (suc n) [] asc x h = absurd (false≢true h)
take-first (suc n) (y ∷ ys) asc x h = by (is_same_id x y) h (take-first n ys asc.1 x) (λ later. below-not_back y x (above-has y ys x asc.0 later)) where
  by : (t : Bool) → (t || has_id ys x) ≡ true
      → (has_id ys x ≡ true → (has_id (take n ys) x ≡ true) ⊎ ((n ≡ length (take n ys)) × AllUpTo x (take n ys)))
      → (has_id ys x ≡ true → is_below x y ≡ false)
      → ((t || has_id (take n ys) x) ≡ true) ⊎ ((suc n ≡ length (y ∷ take n ys)) × AllUpTo x (y ∷ take n ys))
  by true e rest up = inl refl
  by false e rest up = later (rest e) where
    later : (has_id (take n ys) x ≡ true) ⊎ ((n ≡ length (take n ys)) × AllUpTo x (take n ys))
        → (has_id (take n ys) x ≡ true) ⊎ ((suc n ≡ length (y ∷ take n ys)) × AllUpTo x (y ∷ take n ys))
    later (inl among) = inl among
    later (inr (full, above)) = inr (omega (arith, full), (up e, above))

take-few : (n : ℕ) (xs : List Id) → length (take n xs) ≤ n
take-few zero xs = omega arith
take-few (suc n) [] = omega arith
take-few (suc n) (x ∷ xs) = omega (arith, take-few n xs)

pub limited-few : (xs : List Id) (limit : Option ℕ) (n : ℕ) → limit ≡ Some n → length (up_to_limit limit xs) ≤ n
limited-few xs None n e = absurd (subst (λ (o : Option ℕ). is_none o) e tt) where
  is_none : Option ℕ → Type 0
  is_none None = Unit {0}
  is_none (Some m) = ⊥
limited-few xs (Some m) n e = subst (λ (k : ℕ). length (take m xs) ≤ k) (or_zero e) (take-few m xs) where
  or_zero : Some m ≡ Some n → m ≡ n
  or_zero f = ap (λ (o : Option ℕ). number o) f where
    number : Option ℕ → ℕ
    number None = 0
    number (Some k) = k

pub limited-first : (limit : Option ℕ) (xs : List Id) → Ascends xs → AreFirst (λ x. has_id xs x ≡ true) limit (up_to_limit limit xs)
limited-first limit xs asc = record {
  ascend = ascends-limited limit xs asc;
  chosen = limited-has limit xs;
  in_full = full limit;
  at_most = limited-few xs limit;
}
  where
    full : (limit : Option ℕ) (x : Id) → has_id xs x ≡ true → (has_id (up_to_limit limit xs) x ≡ true) ⊎ ((limit ≡ Some (length (up_to_limit limit xs))) × AllUpTo x (up_to_limit limit xs))
    full None x h = inl h
    full (Some n) x h = by (take-first n xs asc x h) where
      by : (has_id (take n xs) x ≡ true) ⊎ ((n ≡ length (take n xs)) × AllUpTo x (take n xs))
          → (has_id (take n xs) x ≡ true) ⊎ ((Some n ≡ Some (length (take n xs))) × AllUpTo x (take n xs))
      by (inl among) = inl among
      by (inr (full_is, above)) = inr (ap Some full_is, above)

-- the same for what is chosen in the same way
pub first-as : (A B : Id → Type 0) (limit : Option ℕ) (ids : List Id) → ((x : Id) → A x → B x) → ((x : Id) → B x → A x) → AreFirst A limit ids → AreFirst B limit ids
first-as A B limit ids from to first = record {
  ascend = first.ascend;
  chosen = λ x h. from x (first.chosen x h);
  in_full = λ x h. first.in_full x (to x h);
  at_most = first.at_most;
}
