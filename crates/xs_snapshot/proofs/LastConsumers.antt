-- A consumer after the last one.
use Rattle.std.proofs.Common.{◌≡◌, ℕ, true, false, List, [], ◌∷◌, ◌++◌, Some, None, refl, arith}
use Rattle.std.proofs.Math.Dec.{T}
use Rattle.std.specs.List.{list_all}
use Rattle.std.specs.FinMap.Entries.{is_sorted}
use Rattle.std.specs.Ordering.{nat_cmp}
use Rattle.std.specs.Cmp.Lexicographic.{slice_cmp}
use Rattle.xs_bytes.specs.SortedMap.{NameMap, empty}
use Rattle.xs_group.specs.GroupState.{GroupState, has_name, with_consumer}
use Rattle.xs_keys.specs.Event.{Bytes}
use Rattle.xs_keys.specs.NextName.{is_name_before, is_past_names}
use Rattle.xs_keys.proofs.LastNames.{name-trans, past-joined, rises, front, tail, none-past, name-behind}
use Rattle.xs_snapshot.specs.NextPiece.{last_name}

module _ {X : Type 0} where
  pub last-more : (es : List (Bytes × X)) (e : Bytes × X) → last_name (es ++ e ∷ []) ≡ Some e.0
  last-more [] e = refl
  last-more (f ∷ []) e = refl
  last-more (f ∷ g ∷ es) e = last-more (g ∷ es) e

  past-entries : (es : List (Bytes × X)) (name last : Bytes) → T (is_sorted (slice_cmp nat_cmp) es) → Some last ≡ last_name es
      → is_name_before last name ≡ list_all (λ e. is_name_before e.0 name) es
  past-entries [] name last s is = absurd (cc)
  past-entries (e ∷ []) name last s is = grind arith
  past-entries (e ∷ f ∷ es) name last s is =
      past-joined (is_name_before last name) (is_name_before e.0 name) (is_name_before f.0 name) (list_all (λ e. is_name_before e.0 name) es)
      (past-entries (f ∷ es) name last (tail _ _ s) is) (λ h. name-trans e.0 f.0 name (rises _ _ (front _ _ s)) h)

  none-entries : (es : List (Bytes × X)) (name : Bytes) → None ≡ last_name es → true ≡ list_all (λ e. is_name_before e.0 name) es
  none-entries [] name is = refl
  none-entries (e ∷ []) name is = absurd (cc)
  none-entries (e ∷ f ∷ es) name is = absurd (one f es is) where
    one : (f : Bytes × X) (es : List (Bytes × X)) → None ≡ last_name (f ∷ es) → ⊥
    one f [] is = cc
    one f (g ∷ es) is = one g es is

  -- what is above the last name is above all
  pub past-last_name : (m : NameMap X) (name last : Bytes) → Some last ≡ last_name m.entries → is_name_before last name ≡ is_past_names name m
  past-last_name m name last is = past-entries m.entries name last m.sorted is

  -- every name is above all if there are none
  pub past-no_name : (m : NameMap X) (name : Bytes) → None ≡ last_name m.entries → true ≡ is_past_names name m
  past-no_name m name is = none-entries m.entries name is

-- such a consumer is inserted after the others
pub consumers-more : (name : Bytes) (moment : ℕ) (group : GroupState) → is_past_names name group.consumers ≡ true
    → (with_consumer name moment group).consumers.entries ≡ group.consumers.entries ++ (name, moment) ∷ []
consumers-more name moment group past =
    let new : has_name group.consumers name ≡ false = rw (none-past group.consumers name past) refl in
    rw new (name-behind group.consumers name moment past)

pub no-last_name : None ≡ last_name (empty {X = ℕ} {R = slice_cmp nat_cmp}).entries
unfolding empty
no-last_name = refl
