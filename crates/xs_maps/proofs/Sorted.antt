-- Entries in the order of their keys.
use Rattle.std.proofs.Common.{◌≡◌, ℕ, List, [], ◌∷◌, ◌++◌, Bool, true, false, cond, Some, is_some, slice_get, ◌||◌}
use Rattle.std.proofs.Common.{Result, Ok, Err, OnOk, OnErr, Ordering, BTreeMap, refl, sym, ap, subst, ◌∙◌}
use Rattle.std.specs.declared.cmp.Ordering.TheVariants.{Less}
use Rattle.std.specs.Ordering.{match_ordering}
use Rattle.std.specs.Cmp.{IsTotalOrder}
use mathlib.Core.Bool.{true≢false}
use Rattle.std.proofs.lemmas.Cmp.{tied_itself}
use Rattle.std.specs.Ordering.{is_eq}
use Rattle.std.specs.List.{AllByRecursion, list_any}
use Rattle.std.specs.Option.{unwrap_or}
use Rattle.std.specs.List.Sorted.{IsStrictlySortedBy}
use Rattle.std.specs.Map.{keys_of, remove_entry}
use Rattle.std.specs.BTreeMap.{insert_entry, is_at, IsOrdered, Updates}
use Rattle.std_collections.specs.Layout.BTreeMap.{seek}
use Rattle.std_collections.proofs.Entries.{keys-set_value}
use Rattle.std_collections.proofs.Seek.{found_at, insert_entry-Ok, insert_entry_err, sorted_insert}
use Rattle.std_collections.proofs.TreeMap.Lookup.{updates_set, Updates-insert}

pub sorted-none : {K : Type 0} (cmp : K → K → Ordering) → IsStrictlySortedBy cmp []
unfolding IsStrictlySortedBy
sorted-none cmp = tt

pub on-either : {T E : Type 0} {A B P : Type 0} (r : Result T E) → OnOk r A → OnErr r B → (A → P) → (B → P) → P
on-either (Ok x) a b f h = f a
on-either (Err e) a b f h = h b

-- an entry below the others
module _ {K X : Type 0} (cmp : K → K → Ordering) where
  front : (es : List (K × X)) (k : K) (v : X) → IsStrictlySortedBy cmp (keys_of ((k, v) ∷ es)) → insert_entry cmp es k v ≡ (k, v) ∷ es
  unfolding IsStrictlySortedBy
  front [] k v sorted = refl
  front (e ∷ es) k v sorted = ap (λ o. match_ordering o ((k, v) ∷ e ∷ es) ((e.0, v) ∷ es) (e ∷ insert_entry cmp es k v)) sorted.0.0

  pub put-front : (few es : List (K × X)) (k : K) (v : X) → IsStrictlySortedBy cmp (keys_of (few ++ (k, v) ∷ es)) → insert_entry cmp es k v ≡ (k, v) ∷ es
  unfolding IsStrictlySortedBy
  put-front [] es k v sorted = front es k v sorted
  put-front (e ∷ few) es k v sorted = put-front few es k v sorted.1

module _ {K X : Type 0} {cmp : K → K → Ordering} (total : IsTotalOrder cmp) (k : K) (v : X) (m n : BTreeMap K X)
    (sorted : IsOrdered cmp m) (put : n.entries ≡ insert_entry cmp m.entries k v) where
  pub updates-put : Updates cmp m n k (Some v)
  updates-put = by (seek (cmp k) m.entries) refl where
    by : (r : Result ℕ ℕ) → seek (cmp k) m.entries ≡ r → Updates cmp m n k (Some v)
    by (Ok i) h =
        let at = found_at (cmp k) m.entries i h in
        updates_set total (cmp k) (total.congr k) m n v at.there (put ∙ sym (insert_entry-Ok cmp k v m.entries i h) ∙ at.writes v)
    by (Err i) h = Updates-insert total k v m n i sorted (sym h) (put ∙ sym (insert_entry_err cmp k v m.entries i h))

  pub ordered-put : IsOrdered cmp n
  ordered-put = by (seek (cmp k) m.entries) refl where
    by : (r : Result ℕ ℕ) → seek (cmp k) m.entries ≡ r → IsOrdered cmp n
    by (Ok i) h =
        let at = found_at (cmp k) m.entries i h in
        let same = ap keys_of (put ∙ sym (insert_entry-Ok cmp k v m.entries i h) ∙ at.writes v) ∙ keys-set_value (is_at (cmp k)) m.entries v in
        subst (IsStrictlySortedBy cmp) (sym same) sorted
    by (Err i) h = subst (λ es. IsStrictlySortedBy cmp (keys_of es)) (insert_entry_err cmp k v m.entries i h ∙ sym put) (sorted_insert cmp k v total m.entries i sorted h)

-- the first key is one of them
pub first-in : {K : Type 0} {cmp : K → K → Ordering} → IsTotalOrder cmp → (ks : List K) (k : K) → slice_get ks 0 ≡ Some k → list_any (is_at (cmp k)) ks ≡ true
first-in total [] k e = absurd (true≢false (ap is_some (sym e)))
first-in {cmp = cmp} total (x ∷ xs) k e =
    ap (λ b. b || list_any (is_at (cmp k)) xs) (ap (λ o. is_at (cmp k) (unwrap_or o k)) e ∙ ap is_eq (tied_itself total k))

-- an entry less
either : {A : Type 0} (P : A → Type 0) (t : Bool) (a b : A) → P a → P b → P (cond t a b)
either P true a b p q = p
either P false a b p q = q

all-less : {K X : Type 0} (test : K → Bool) (P : K → Type 0) (es : List (K × X)) → AllByRecursion P (keys_of es) → AllByRecursion P (keys_of (remove_entry test es))
all-less test P [] a = tt
all-less test P (e ∷ es) a = either (λ l. AllByRecursion P (keys_of l)) (test e.0) es (e ∷ remove_entry test es) a.1 (a.0, all-less test P es a.1)

module _ {K X : Type 0} (cmp : K → K → Ordering) (test : K → Bool) where
  sorted-less : (es : List (K × X)) → IsStrictlySortedBy cmp (keys_of es) → IsStrictlySortedBy cmp (keys_of (remove_entry test es))
  unfolding IsStrictlySortedBy
  sorted-less [] s = tt
  sorted-less (e ∷ es) s =
      either (λ l. IsStrictlySortedBy cmp (keys_of l)) (test e.0) es (e ∷ remove_entry test es) s.1 (all-less test (λ y. cmp e.0 y ≡ Less) es s.0, sorted-less es s.1)

  pub ordered-remove : (m n : BTreeMap K X) → IsOrdered cmp m → n.entries ≡ remove_entry test m.entries → IsOrdered cmp n
  ordered-remove m n sorted e = subst (λ es. IsStrictlySortedBy cmp (keys_of es)) (sym e) (sorted-less m.entries sorted)
