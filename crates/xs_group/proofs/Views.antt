-- The maps as which contracts see the two indexes.
use Rattle.xs_group.proofs.Terms.{◌≡◌, ℕ, cond, List, [], ◌∷◌, map, Option, Some, None, is_some, sym, ap, ◌∙◌, refl}
use Rattle.xs_group.proofs.Terms.{BTreeMap, Ordering, find, lookup, UpdatesBy, is_at, nat_cmp, eq_by_cmp, slice_cmp}
use Rattle.xs_group.proofs.Terms.{nat_list_cmp_total, exact_bytes, get, remove, get-of_entries, get-remove, same_map}
use Rattle.xs_group.proofs.Terms.{Id, id_cmp, same_id, is_same_id-symm, RowState, Rows, Consumers, has_name, ids_total}
use Rattle.xs_group.proofs.Terms.{rows_of, ConsumerIndex, consumers_of, owner_at, seen_at, indexed_row, arith}

pub find-lookup : {K X : Type 0} (R : K → K → Ordering) (q : K) (es : List (K × X)) → find R q es ≡ lookup (is_at (R q)) es
find-lookup R q [] = refl
find-lookup R q (e ∷ es) = ap (cond (eq_by_cmp R q e.0) (Some e.1)) (find-lookup R q es)

pub get-rows_of : (rows : List (Id × RowState)) (x : Id) → get (rows_of rows) x ≡ indexed_row rows x
get-rows_of rows x = get-of_entries ids_total rows x ∙ find-lookup id_cmp x rows

lookup-seen : (owners : ConsumerIndex) (n : List ℕ) → lookup (is_at (slice_cmp nat_cmp n)) (map (λ e. (e.0, e.1.seen)) owners) ≡ seen_at owners n
lookup-seen [] n = refl
lookup-seen (e ∷ es) n = grind (arith, lookup-seen es n)

pub get-consumers_of : (owners : ConsumerIndex) (n : List ℕ) → get (consumers_of owners) n ≡ seen_at owners n
get-consumers_of owners n = get-of_entries nat_list_cmp_total (map (λ e. (e.0, e.1.seen)) owners) n ∙ find-lookup (slice_cmp nat_cmp) n (map (λ e. (e.0, e.1.seen)) owners) ∙ lookup-seen owners n

pub has_name-consumers_of : (owners : ConsumerIndex) (n : List ℕ) → has_name (consumers_of owners) n ≡ is_some (owner_at owners n)
has_name-consumers_of owners n = grind (arith, get-consumers_of owners n)

pub same_consumers : (m n : Consumers) → ((q : List ℕ) → get m q ≡ get n q) → m ≡ n
same_consumers m n is = same_map nat_list_cmp_total exact_bytes m n is

-- indexes of the same consumers, with the same moments
pub consumers-same : (a b : ConsumerIndex) → ((q : List ℕ) → seen_at a q ≡ seen_at b q) → consumers_of a ≡ consumers_of b
consumers-same a b is = same_consumers (consumers_of a) (consumers_of b) (λ q. get-consumers_of a q ∙ is q ∙ sym (get-consumers_of b q))

pub same_rows : (m n : Rows) → ((q : Id) → get m q ≡ get n q) → m ≡ n
same_rows m n is = same_map ids_total same_id m n is

pub rows-same : (a b : List (Id × RowState)) → ((q : Id) → indexed_row a q ≡ indexed_row b q) → rows_of a ≡ rows_of b
rows-same a b is = same_rows (rows_of a) (rows_of b) (λ q. get-rows_of a q ∙ is q ∙ sym (get-rows_of b q))

-- ---- one row

abbrev pub RowMap : Type 0
RowMap = BTreeMap Id RowState

pub rows-remove : (m n : RowMap) (id : Id) → UpdatesBy id_cmp (id_cmp id) m n None → rows_of n.entries ≡ remove (rows_of m.entries) id
rows-remove m n id u = same_rows _ _ (λ q. grind (
  arith,
  get-rows_of n.entries q,
  u.0 q,
  is_same_id-symm id q,
  get-rows_of m.entries q,
  get-remove ids_total (rows_of m.entries) id q,
))
