-- What a search from the front finds.
use Rattle.std.proofs.Common.{◌≡◌, ℕ, zero, suc, ◌<◌, List, [], ◌∷◌, length, get_or, set, slice_get, Some, None, Ok}
use Rattle.std.proofs.Common.{Err, Ordering, inl, refl, sym, ap, ◌∙◌, arith}
use Rattle.std.specs.Cmp.{IsTotalOrder}
use Rattle.std.specs.List.Sorted.{IsStrictlySortedBy}
use Rattle.std.specs.Map.{keys_of, values_of, lookup, remove_entry}
use Rattle.std.specs.BTreeMap.{is_at}
use Rattle.std.specs.declared.cmp.Ordering.TheVariants.{Less, Equal, Greater}
use Rattle.std.specs.Ordering.{match_ordering}
use Rattle.std_collections.specs.Layout.BTreeMap.{seek, one_further, btree_map}
use Rattle.std_collections.specs.Layout.Columns.{set_value_at}
use Rattle.std.specs.BTreeMap.Comparable.{le_lt_trans}
use Rattle.std_collections.proofs.TreeMap.Lookup.{absent}
use Rattle.std_collections.proofs.Seek.{AboveFirst, seek-Ok, found_at}

module _ {K X : Type 0} (compare : K → Ordering) where
  answer : (x : K × X) (es : List (K × X)) (r : Ordering) → compare x.0 ≡ r
      → seek compare (x ∷ es) ≡ match_ordering r (Err 0) (Ok 0) (one_further (seek compare es))
  answer x es r e = ap (λ o. match_ordering o (Err 0) (Ok 0) (one_further (seek compare es))) e

  pub less-at : (es : List (K × X)) (i : ℕ) (d : K × X) → i < length es → AboveFirst compare es i → compare (get_or es i d).0 ≡ Less
      → seek compare es ≡ Err i
  less-at [] i d lt above e = absurd (omega arith)
  less-at (x ∷ es) zero d lt above e = answer x es Less e
  less-at (x ∷ es) (suc i) d lt above e = answer x es Greater above.0 ∙ ap one_further (less-at es i d (omega arith) above.1 e)

  pub equal-at : (es : List (K × X)) (i : ℕ) (d : K × X) → i < length es → AboveFirst compare es i → compare (get_or es i d).0 ≡ Equal
      → seek compare es ≡ Ok i
  equal-at [] i d lt above e = absurd (omega arith)
  equal-at (x ∷ es) zero d lt above e = answer x es Equal e
  equal-at (x ∷ es) (suc i) d lt above e = answer x es Greater above.0 ∙ ap one_further (equal-at es i d (omega arith) above.1 e)

  pub above-all : (es : List (K × X)) → AboveFirst compare es (length es) → seek compare es ≡ Err (length es)
  above-all [] above = refl
  above-all (x ∷ es) above = answer x es Greater above.0 ∙ ap one_further (above-all es above.1)

  pub above-more : (es : List (K × X)) (i : ℕ) (d : K × X) → i < length es → AboveFirst compare es i → compare (get_or es i d).0 ≡ Greater
      → AboveFirst compare es (suc i)
  above-more [] i d lt above e = absurd (omega arith)
  above-more (x ∷ es) zero d lt above e = (e, tt)
  above-more (x ∷ es) (suc i) d lt above e = (above.0, above-more es i d (omega arith) above.1 e)

-- ---- the entry at the place that a search found

pub set-value : {K X : Type 0} (es : List (K × X)) (i : ℕ) (e : K × X) (w : X) → e ≡ get_or es i e → set es i (e.0, w) ≡ set_value_at es i w
set-value [] i e w is = refl
set-value {K} {X} (x ∷ es) zero e w is = ap (λ (p : K × X). (p.0, w) ∷ es) is
set-value (x ∷ es) (suc i) e w is = ap (λ l. x ∷ l) (set-value es i e w is)

value-get : {K X : Type 0} (es : List (K × X)) (i : ℕ) (e : K × X) → i < length es → e ≡ get_or es i e → slice_get (values_of es) i ≡ Some e.1
value-get [] i e lt is = absurd (omega arith)
value-get {K} {X} (x ∷ es) zero e lt is = ap (λ (p : K × X). Some p.1) (sym is)
value-get (x ∷ es) (suc i) e lt is = value-get es i e (omega arith) is

module _ {K X : Type 0} (compare : K → Ordering) (es : List (K × X)) (i : ℕ) (ok : seek compare es ≡ Ok i) where
  pub within : i < length es
  within = (seek-Ok compare es i ok).0

  module _ (e : K × X) (is : e ≡ get_or es i e) where
    pub value-found : Some e.1 ≡ lookup (is_at compare) es
    value-found = sym (value-get es i e within is) ∙ sym (found_at compare es i ok).value

-- no entry
pub nothing-found : {K X : Type 0} {cmp : K → K → Ordering} → IsTotalOrder cmp → (k : K) (es : List (K × X)) (i : ℕ) → IsStrictlySortedBy cmp (keys_of es)
    → seek (cmp k) es ≡ Err i → (None ≡ lookup (is_at (cmp k)) es) × (es ≡ remove_entry (is_at (cmp k)) es)
nothing-found {cmp = cmp} total k es i sorted err =
    let no = absent (cmp k) (le_lt_trans total k) (btree_map es (inl tt)) i sorted (sym err) in
    (no.1, no.2)
