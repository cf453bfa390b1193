-- Lists and maps in the order of their keys.
use Rattle.xs_group.proofs.Terms.{◌≡◌, ℕ, Bool, false, ◌&&◌, List, [], ◌∷◌, map, filter, is_some, sym, ap, subst, ◌∙◌}
use Rattle.xs_group.proofs.Terms.{refl, Ordering, T, find, below_all, is_sorted, same_entries, AllByRecursion, keys_of}
use Rattle.xs_group.proofs.Terms.{IsOrdered, Less, sorted_head, sorted_tail, get-of_entries, Id, id_cmp, has_id}
use Rattle.xs_group.proofs.Terms.{AllAbove, Ascends, same_id, is_same_id-eq, RowState, Rows, ids_total, is_same_name}
use Rattle.xs_group.proofs.Terms.{ids_of_consumer, rows_of, is_owner, arith, PendingList, IsUpTo, IsNamed, IsConsistentGroup}
use Rattle.std.specs.List.Sorted.{IsStrictlySortedBy}
use Rattle.xs_bytes.specs.SortedMap.{get}
use Rattle.xs_group.proofs.Views.{RowMap}

pub first : (a b : Bool) → T (a && b) → T a
first a b p = grind arith

pub second : (a b : Bool) → T (a && b) → T b
second a b p = grind arith

module _ {K X : Type 0} (R : K → K → Ordering) where
  below-from : (k : K) (es : List (K × X)) → AllByRecursion (λ y. R k y ≡ Less) (keys_of es) → T (below_all R k es)
  below-from k [] a = tt
  below-from k (e ∷ es) a = grind (arith, a.0, below-from k es a.1)

  pub is_sorted-from : (es : List (K × X)) → IsStrictlySortedBy R (keys_of es) → T (is_sorted R es)
  is_sorted-from [] s = tt
  is_sorted-from (e ∷ es) s = grind (
    arith,
    below-from e.0 es (sorted_head R e.0 (keys_of es) s),
    is_sorted-from es (sorted_tail R e.0 (keys_of es) s),
  )

  below-filter : (p : K × X → Bool) (k : K) (es : List (K × X)) → T (below_all R k es) → T (below_all R k (filter p es))
  below-filter p k [] h = tt
  below-filter p k (e ∷ es) h = grind (arith, below-filter p k es)

  pub is_sorted-filter : (p : K × X → Bool) (es : List (K × X)) → T (is_sorted R es) → T (is_sorted R (filter p es))
  is_sorted-filter p [] h = tt
  is_sorted-filter p (e ∷ es) h = grind (arith, is_sorted-filter p es, below-filter p e.0 es)

-- ---- the entries of a map that is made of entries in order

pub entries-rows_of : (m : RowMap) → IsOrdered id_cmp m → (rows_of m.entries).entries ≡ m.entries
unfolding get
entries-rows_of m o = same_entries id_cmp ids_total same_id (rows_of m.entries).entries m.entries (rows_of m.entries).sorted (is_sorted-from id_cmp m.entries o)
    (λ q. get-of_entries ids_total m.entries q)

-- ---- ids in order

abbrev units : List Id → List (Id × Unit {0})
units [] = []
units (x ∷ xs) = (x, tt) ∷ units xs

keys-units : (xs : List Id) → keys_of (units xs) ≡ xs
keys-units [] = refl
keys-units (x ∷ xs) = ap (λ rest. x ∷ rest) (keys-units xs)

below-units : (k : Id) (es : List (Id × RowState)) → below_all id_cmp k (units (keys_of es)) ≡ below_all id_cmp k es
below-units k [] = refl
below-units k (e ∷ es) = grind (arith, below-units k es)

sorted-units : (es : List (Id × RowState)) → is_sorted id_cmp (units (keys_of es)) ≡ is_sorted id_cmp es
sorted-units [] = refl
sorted-units (e ∷ es) = λ i. below-units e.0 es i && sorted-units es i

find-units : (q : Id) (xs : List Id) → is_some (find id_cmp q (units xs)) ≡ has_id xs q
find-units q [] = refl
find-units q (x ∷ xs) = grind (arith, find-units q xs)

-- ids in order are determined by which ids they contain
pub same_ids : (xs : List Id) (es : List (Id × RowState)) → IsStrictlySortedBy id_cmp xs → T (is_sorted id_cmp es) → ((q : Id) → has_id xs q ≡ has_id (keys_of es) q) → xs ≡ keys_of es
same_ids xs es s t is =
    sym (keys-units xs) ∙ ap keys_of (same_entries id_cmp ids_total same_id (units xs) (units (keys_of es))
    (is_sorted-from id_cmp (units xs) (subst (IsStrictlySortedBy id_cmp) (sym (keys-units xs)) s)) (subst T (sym (sorted-units es)) t)
    (λ q. grind (arith, find-units q xs, is q, find-units q (keys_of es)))) ∙ keys-units (keys_of es)

find-below : (k : Id) (name : List ℕ) (es : List (Id × RowState)) → T (below_all id_cmp k es) → has_id (keys_of (filter (λ e. is_same_name e.1.consumer name) es)) k ≡ false
find-below k name [] h = refl
find-below k name (e ∷ es) h = grind (arith, find-below k name es)

-- the consumer's ids among rows in order
pub has_owned : (name : List ℕ) (q : Id) (es : List (Id × RowState)) → T (is_sorted id_cmp es) → has_id (ids_of_consumer name es) q ≡ is_owner (find id_cmp q es) name
has_owned name q [] h = refl
has_owned name q (e ∷ es) h = grind (arith, has_owned name q es, is_same_id-eq q e.0, find-below e.0 name es)

-- the ids of a consumer, as the index has them
pub ids-owned : (ids : List Id) (rows : Rows) (name : List ℕ) → IsStrictlySortedBy id_cmp ids → ((x : Id) → has_id ids x ≡ is_owner (get rows x) name) → ids ≡ ids_of_consumer name rows.entries
unfolding get
ids-owned ids rows name s is = same_ids ids (filter (λ e. is_same_name e.1.consumer name) rows.entries) s
    (is_sorted-filter id_cmp (λ e. is_same_name e.1.consumer name) rows.entries rows.sorted) (λ q. is q ∙ sym (has_owned name q rows.entries rows.sorted))

pub sorted-none : IsStrictlySortedBy id_cmp []
unfolding IsStrictlySortedBy
sorted-none = tt

-- ---- the ids of rows ascend

above-ids : (x : Id) (es : List (Id × RowState)) → T (below_all id_cmp x es) → AllAbove x (map (λ e. e.0) es)
above-ids x [] h = tt
above-ids x (e ∷ es) h = (grind arith, above-ids x es (second _ _ h))

pub ascends-ids : (es : List (Id × RowState)) → T (is_sorted id_cmp es) → Ascends (map (λ e. e.0) es)
ascends-ids [] h = tt
ascends-ids (e ∷ es) h = (above-ids e.0 es (first _ _ h), ascends-ids es (second _ _ h))

-- ---- a consistent group

pub is-consistent : (cursor : Id) (held : PendingList) → IsUpTo cursor held.rows → IsNamed held.consumers held.rows
    → IsConsistentGroup (record { cursor = cursor; consumers = held.consumers; rows = held.rows })
is-consistent cursor held up named = record { ascends = ascends-ids held.rows.entries held.rows.sorted; up_to_cursor = up; of_consumers = named }
