-- Reports of pending rows.
use Rattle.xs_group.proofs.Terms.{◌≡◌, ℕ, ◌-◌, suc, Bool, true, false, cond, ◌&&◌, leb, List, [], ◌∷◌, map, filter}
use Rattle.xs_group.proofs.Terms.{take, length, Option, Some, None, sym, ap, ◌∙◌, refl, subst, arith, T, AllByRecursion}
use Rattle.xs_group.proofs.Terms.{slice_get, IsStrictlySortedBy, keys_of, IsOrdered, range_contains, entries_between}
use Rattle.xs_group.proofs.Terms.{Owner, Included, below_all, is_sorted, same_entries, nat_cmp, slice_cmp}
use Rattle.xs_group.proofs.Terms.{nat_list_cmp_total, exact_bytes, keys, get-of_entries, Id, Range, id_cmp, is_below}
use Rattle.xs_group.proofs.Terms.{is_within, between-within, filter-filter, PendingRow, Selection, RowState}
use Rattle.xs_group.proofs.Terms.{is_same_name, idle_time, ids_of_consumer, ConsumerIndex, consumers_of, owner_at}
use Rattle.xs_group.proofs.Terms.{indexed_row, rows_of}
use Rattle.xs_group.proofs.Terms.{last_id, pending_row, is_selected, below-not_below}
use Rattle.xs_group.proofs.Terms.{ConsumerReport, consumer_reports}
use Rattle.xs_bytes.specs.SortedMap.{get}
use Rattle.xs_group.proofs.ByConsumer.{Index, is_same_name-symm, is_same_name-refl}
use Rattle.xs_group.proofs.Ordered.{is_sorted-from, first, second}
use Rattle.xs_group.proofs.Views.{get-rows_of}
use Rattle.xs_group.proofs.Scanning.{AreFound, found-all, found-filter}

-- ---- the least and the greatest id

pub last-told : (es : List (Id × RowState)) (x : Id) (row : RowState) → slice_get es (length es - 1) ≡ Some (x, row) → Some x ≡ last_id es
last-told [] x row e = cc
last-told (f ∷ []) x row e = cc
last-told (f ∷ g ∷ es) x row e =
    let k : suc (suc (length es)) - 1 ≡ suc (suc (length es) - 1) = omega arith in
    last-told (g ∷ es) x row (sym (ap (slice_get (f ∷ g ∷ es)) k) ∙ e)

-- ---- the consumers

-- each entry is the one that a lookup finds
abbrev pub AreHeld : ConsumerIndex → ConsumerIndex → Type 0
AreHeld owners es = AllByRecursion (λ e. Some e.1 ≡ owner_at owners e.0) es

held-later : (e : List ℕ × Owner) (owners es : ConsumerIndex) → T (below_all (slice_cmp nat_cmp) e.0 es) → AreHeld owners es → AreHeld (e ∷ owners) es
held-later e owners [] b a = tt
held-later e owners (f ∷ fs) b a = (
  grind (arith, a.0, is_same_name-symm f.0 e.0),
  held-later e owners fs (second _ _ b) a.1,
)

held-sorted : (owners : ConsumerIndex) → T (is_sorted (slice_cmp nat_cmp) owners) → AreHeld owners owners
held-sorted [] s = tt
held-sorted (e ∷ es) s = (
  grind (arith, is_same_name-refl e.0),
  held-later e es es (first _ _ s) (held-sorted es (second _ _ s)),
)

pub held-all : (m : Index) → IsOrdered (slice_cmp nat_cmp) m → AreHeld m.entries m.entries
held-all m o = held-sorted m.entries (is_sorted-from (slice_cmp nat_cmp) m.entries o)

-- a consumer with its moment
abbrev pub with_moment : List ℕ × Owner → List ℕ × ℕ
with_moment e = (e.0, e.1.seen)

keys-moments : (es : ConsumerIndex) → keys_of (map with_moment es) ≡ keys_of es
keys-moments [] = refl
keys-moments (e ∷ es) = ap (λ rest. e.0 ∷ rest) (keys-moments es)

pub entries-consumers_of : (m : Index) → IsOrdered (slice_cmp nat_cmp) m → (consumers_of m.entries).entries ≡ map with_moment m.entries
unfolding get
entries-consumers_of m o =
    same_entries (slice_cmp nat_cmp) nat_list_cmp_total exact_bytes (consumers_of m.entries).entries (map with_moment m.entries) (consumers_of m.entries).sorted
    (is_sorted-from (slice_cmp nat_cmp) (map with_moment m.entries) (subst (IsStrictlySortedBy (slice_cmp nat_cmp)) (sym (keys-moments m.entries)) o))
    (λ q. get-of_entries nat_list_cmp_total (map with_moment m.entries) q)

pub keys-consumers_of : (m : Index) → IsOrdered (slice_cmp nat_cmp) m → keys (consumers_of m.entries) ≡ keys_of m.entries
keys-consumers_of m o = ap (λ (es : List (List ℕ × ℕ)). map (λ e. e.0) es) (entries-consumers_of m o) ∙ keys-moments m.entries

length-keys : {X : Type 0} (es : List (List ℕ × X)) → length (keys_of es) ≡ length es
length-keys [] = refl
length-keys (e ∷ es) = ap suc (length-keys es)

-- as many consumers as the index has
pub length-consumers_of : (m : Index) → IsOrdered (slice_cmp nat_cmp) m → length (consumers_of m.entries).entries ≡ length m.entries
length-consumers_of m o = sym (length-keys (consumers_of m.entries).entries) ∙ ap length (keys-consumers_of m o) ∙ length-keys m.entries

-- ---- rows

pub rows-between : (s : Selection) (rows : List (Id × RowState))
    → filter (λ e. leb s.min_idle (idle_time s.moment e.1.time))
    (entries_between id_cmp (Included s.range.low) (Included s.range.high) rows)
    ≡ filter (is_selected s.range s.min_idle s.moment None) rows
rows-between s rows =
    filter-filter (λ (e : Id × RowState). range_contains id_cmp (Included s.range.low) (Included s.range.high) e.0)
    (λ e. leb s.min_idle (idle_time s.moment e.1.time)) (is_selected s.range s.min_idle s.moment None)
    (λ e. grind (arith, between-within s.range e.0)) rows

-- a row before the others, if there is one
abbrev pub with_row : Id → Option RowState → List (Id × RowState) → List (Id × RowState)
with_row x None rest = rest
with_row x (Some row) rest = (x, row) ∷ rest

-- the rows of these ids
abbrev pub listed_rows : List (Id × RowState) → List Id → List (Id × RowState)
listed_rows rows [] = []
listed_rows rows (x ∷ xs) = with_row x (indexed_row rows x) (listed_rows rows xs)

-- the rows of the ids in a range
pub among-between : (range : Range) (rows : List (Id × RowState)) (ids : List Id)
    → listed_rows rows (filter (range_contains id_cmp (Included range.low) (Included range.high)) ids) ≡ filter (λ e. is_within range e.0) (listed_rows rows ids)
among-between range rows [] = refl
among-between range rows (x ∷ xs) =
    one (range_contains id_cmp (Included range.low) (Included range.high) x) (between-within range x)
    (indexed_row rows x) refl _ _ (among-between range rows xs) where
      one : (t : Bool) → t ≡ is_within range x → (o : Option RowState) → indexed_row rows x ≡ o
          → (a : List Id) (b : List (Id × RowState)) → listed_rows rows a ≡ filter (λ e. is_within range e.0) b
          → listed_rows rows (cond t (x ∷ a) a) ≡ filter (λ e. is_within range e.0) (with_row x o b)
      one t e None f a b r = grind arith
      one t e (Some row) f a b r = grind arith

among-found : (rows es : List (Id × RowState)) → AreFound (rows_of rows).entries es → listed_rows rows (keys_of es) ≡ es
unfolding get
among-found rows [] a = refl
among-found rows (e ∷ es) a = (λ i. with_row e.0 (sym (a.0 ∙ get-rows_of rows e.0) i) (listed_rows rows (keys_of es)))
    ∙ ap (λ rest. e ∷ rest) (among-found rows es a.1)

-- ---- the rows that are asked for

pub asked-owned : (s : Selection) (name : List ℕ) (rows : List (Id × RowState)) (ids : List Id)
    → ids ≡ ids_of_consumer name (rows_of rows).entries
    → filter (λ e. leb s.min_idle (idle_time s.moment e.1.time)) (filter (λ e. is_within s.range e.0) (listed_rows rows ids))
    ≡ filter (is_selected s.range s.min_idle s.moment (Some name)) (rows_of rows).entries
asked-owned s name rows ids is =
    let all = (rows_of rows).entries in
    let mine = λ (e : Id × RowState). is_same_name e.1.consumer name in
    let within = λ (e : Id × RowState). is_within s.range e.0 in
    let is_idle = λ (e : Id × RowState). leb s.min_idle (idle_time s.moment e.1.time) in
    ap (λ k. filter is_idle (filter within (listed_rows rows k))) is
    ∙ ap (λ es. filter is_idle (filter within es))
    (among-found rows (filter mine all) (found-filter all all mine (found-all all (rows_of rows).sorted)))
    ∙ ap (filter is_idle) (filter-filter mine within (λ e. mine e && within e) (λ e. refl) all)
    ∙ filter-filter (λ e. mine e && within e) is_idle (is_selected s.range s.min_idle s.moment (Some name))
    (λ e. grind arith) all

not_within : (range : Range) → is_below range.high range.low ≡ true → (x : Id) → is_within range x ≡ false
not_within range h x = grind (arith, below-not_below range.high range.low x h)

pub asked-none : (range : Range) (min now limit : ℕ) (consumer : Option (List ℕ)) (rows : List (Id × RowState)) → is_below range.high range.low ≡ true
    → [] ≡ take limit (map (pending_row now) (filter (is_selected range min now consumer) rows))
asked-none range min now limit consumer rows h = grind (arith, none rows) where
  none : (es : List (Id × RowState)) → filter (is_selected range min now consumer) es ≡ []
  none [] = refl
  none (e ∷ es) = grind (arith, not_within range h e.0, none es)

pub take-none : (n : ℕ) → ◌≡◌ {A = List PendingRow} (take n []) []
take-none n = grind arith

-- ---- reports of consumers

module _ (now : ℕ) (rows : List (Id × RowState)) where
  abbrev pub report : List ℕ × Owner → ConsumerReport
  report e = record { consumer = e.0; pending = length (ids_of_consumer e.0 (rows_of rows).entries); seen = e.1.seen; idle = idle_time now e.1.seen }

  pub reports-told : (m : Index) → IsOrdered (slice_cmp nat_cmp) m → (cursor : Id)
      → map report m.entries ≡ consumer_reports now (record { cursor = cursor; consumers = consumers_of m.entries; rows = rows_of rows })
  reports-told m o cursor = sym (map-map m.entries) ∙ sym (ap (map told) (entries-consumers_of m o)) where
    told : List ℕ × ℕ → ConsumerReport
    told e = record { consumer = e.0; pending = length (ids_of_consumer e.0 (rows_of rows).entries); seen = e.1; idle = idle_time now e.1 }

    map-map : (es : ConsumerIndex) → map told (map with_moment es) ≡ map report es
    map-map [] = refl
    map-map (e ∷ es) = ap (λ rest. report e ∷ rest) (map-map es)
