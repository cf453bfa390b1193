-- A name above all others.
use Rattle.std.proofs.Common.{◌≡◌, ℕ, ◌-◌, Bool, true, false, ◌&&◌, List, [], ◌∷◌, ◌++◌, length, suc, slice_get, Some, None}
use Rattle.std.proofs.Common.{Ordering, sym, ap, ◌∙◌, refl, arith}
use Rattle.std.proofs.lemmas.Bool.{false≢true}
use Rattle.std.proofs.Math.Dec.{T}
use Rattle.std.specs.List.{list_all}
use Rattle.std.specs.FinMap.Entries.{put, find, is_sorted}
use Rattle.std.specs.Ordering.{nat_cmp, is_lt, ordering_reverse}
use Rattle.std.specs.Cmp.Lexicographic.{slice_cmp, nat_list_cmp_total}
use Rattle.std.specs.declared.cmp.Ordering.TheVariants.{Less, Equal, Greater}
use Rattle.xs_bytes.specs.SortedMap.{NameMap, get, insert, insert_by}
use Rattle.xs_keys.specs.NextName.{is_name_before, is_past_names}

pub first_holds : (a b : Bool) → (a && b) ≡ true → a ≡ true
first_holds true b h = refl
first_holds false b h = h

pub second_holds : (a b : Bool) → (a && b) ≡ true → b ≡ true
second_holds true b h = h
second_holds false b h = absurd (false≢true h)

less_from : (o : Ordering) → is_lt o ≡ true → o ≡ Less
less_from Less h = refl
less_from Equal h = absurd (false≢true h)
less_from Greater h = absurd (false≢true h)

-- the same, from the greater one
pub name-above : (a b : List ℕ) → is_name_before a b ≡ true → slice_cmp nat_cmp b a ≡ Greater
name-above a b h = nat_list_cmp_total.antisymm b a ∙ ap ordering_reverse (less_from (slice_cmp nat_cmp a b) h)

pub name-trans : (a b c : List ℕ) → is_name_before a b ≡ true → is_name_before b c ≡ true → is_name_before a c ≡ true
name-trans a b c h k = ap is_lt (nat_list_cmp_total.trans a b c (less_from _ h) (less_from _ k))

pub past-joined : (p q a b : Bool) → p ≡ (a && b) → (a ≡ true → q ≡ true) → p ≡ (q && (a && b))
past-joined p q true b e h = rw (h refl) e
past-joined p true false b e h = e
past-joined p false false b e h = e

pub rises : (a b : Bool) → T (a && b) → a ≡ true
rises true b h = refl
rises false b h = absurd h

pub front : (a b : Bool) → T (a && b) → T a
front true b h = tt
front false b h = h

pub tail : (a b : Bool) → T (a && b) → T b
tail true b h = h
tail false b h = absurd h

module _ {X : Type 0} where
  find-past : (es : List (List ℕ × X)) (name : List ℕ) → list_all (λ e. is_name_before e.0 name) es ≡ true → find (slice_cmp nat_cmp) name es ≡ None
  find-past [] name h = refl
  find-past (e ∷ es) name h = rw (name-above e.0 name (first_holds _ _ h)) (find-past es name (second_holds _ _ h))

  put-past : (es : List (List ℕ × X)) (name : List ℕ) (x : X) → list_all (λ e. is_name_before e.0 name) es ≡ true → put (slice_cmp nat_cmp) name x es ≡ es ++ (name, x) ∷ []
  put-past [] name x h = refl
  put-past (e ∷ es) name x h = rw (name-above e.0 name (first_holds _ _ h)) (ap (λ rest. e ∷ rest) (put-past es name x (second_holds _ _ h)))

  -- such a name isn't in the map
  pub none-past : (m : NameMap X) (name : List ℕ) → is_past_names name m ≡ true → get m name ≡ None
  unfolding get
  none-past m name h = find-past m.entries name h

  -- it is inserted after the others
  pub name-behind : (m : NameMap X) (name : List ℕ) (x : X) → is_past_names name m ≡ true → (insert m name x).entries ≡ m.entries ++ (name, x) ∷ []
  unfolding insert_by
  name-behind m name x h = put-past m.entries name x h

  -- a name above the last is above all
  pub past-last : (es : List (List ℕ × X)) (name last : List ℕ) (x : X) → T (is_sorted (slice_cmp nat_cmp) es) → slice_get es (length es - 1) ≡ Some (last, x)
      → is_name_before last name ≡ list_all (λ e. is_name_before e.0 name) es
  past-last [] name last x s is = absurd (cc)
  past-last (e ∷ []) name last x s is =
      let same : e ≡ (last, x) = cc in
      ap (λ (f : List ℕ × X). is_name_before f.0 name) (sym same) ∙ sym (alone (is_name_before e.0 name)) where
        alone : (b : Bool) → (b && true) ≡ b
        alone true = refl
        alone false = refl
  past-last (e ∷ f ∷ es) name last x s is =
      let k : suc (suc (length es)) - 1 ≡ suc (suc (length es) - 1) = omega arith in
      past-joined (is_name_before last name) (is_name_before e.0 name) (is_name_before f.0 name) (list_all (λ e. is_name_before e.0 name) es)
      (past-last (f ∷ es) name last x (tail _ _ s) (sym (ap (slice_get (e ∷ f ∷ es)) k) ∙ is)) (λ h. name-trans e.0 f.0 name (rises _ _ (front _ _ s)) h)

  pub past-nothing : (es : List (List ℕ × X)) (name : List ℕ) → length es ≡ 0 → true ≡ list_all (λ e. is_name_before e.0 name) es
  past-nothing [] name e = refl
  past-nothing (f ∷ es) name e = absurd (omega (arith, e))
