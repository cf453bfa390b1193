-- Rows that are removed: acknowledged ones, and those of a consumer that is removed.
use Rattle.xs_group.proofs.Terms.{◌≡◌, ℕ, ◌≤◌, suc, Bool, true, cond, List, [], ◌∷◌, ◌++◌, length, Option, Some, None}
use Rattle.xs_group.proofs.Terms.{option_and_then, sym, ap, ◌∙◌, refl, arith, BTreeSet, list_any, nat_list_cmp_total}
use Rattle.xs_group.proofs.Terms.{list_any-append, with_some, each, get, has_key, remove, empty, get-change, get-remove}
use Rattle.xs_group.proofs.Terms.{get-empty, Id, id_cmp, is_same_id, same_id, RowState, Rows}
use Rattle.xs_group.proofs.Terms.{ids_total, is_same_name, unless_acked, unless_owned, rows_of, ConsumerIndex, consumers_of}
use Rattle.xs_group.proofs.Terms.{owner_at, ids_at, has_among, has_pending_id, is_owner, indexed_row, IsAgreed, IsNamed, IsUpTo}
use Rattle.xs_bytes.specs.SortedMap.{change}
use Rattle.xs_group.proofs.ByConsumer.{is_same_name-eq, is_same_name-symm}
use Rattle.xs_group.proofs.Views.{same_rows, same_consumers, get-rows_of, get-consumers_of, has_name-consumers_of}

-- a row as it changes
pub get-changed : (f : Id → RowState → Option RowState) (rows : Rows) (q : Id) → get (change f rows) q ≡ option_and_then (f q) (get rows q)
get-changed f rows q = get-change ids_total same_id f rows q

pub change-nothing : (f : Id → RowState → Option RowState) (rows : Rows) → ((q : Id) → option_and_then (f q) (get rows q) ≡ get rows q) → change f rows ≡ rows
change-nothing f rows is = same_rows _ _ (λ q. get-changed f rows q ∙ is q)

length-kept : (k : Id) (v : Option RowState) (es : List (Id × RowState)) (n : ℕ) → length es ≤ n → length (with_some k v es) ≤ suc n
length-kept k v es n h = grind arith

length-each : (f : Id → RowState → Option RowState) (es : List (Id × RowState)) → length (each f es) ≤ length es
length-each f [] = omega arith
length-each f (e ∷ es) = length-kept e.0 (f e.0 e.1) (each f es) (length es) (length-each f es)

pub length-change : (f : Id → RowState → Option RowState) (rows : Rows) → length ((change f rows).entries) ≤ length rows.entries
unfolding change
length-change f rows = length-each f rows.entries

-- ---- acknowledgements

pub acked-none : (rows : Rows) → change (unless_acked []) rows ≡ rows
acked-none rows = change-nothing (unless_acked []) rows (λ q. grind arith)

pub acked-more : (ids : List Id) (id : Id) (rows : Rows) → remove (change (unless_acked ids) rows) id ≡ change (unless_acked (ids ++ id ∷ [])) rows
acked-more ids id rows = same_rows _ _ (λ q. grind (
  arith,
  get-remove ids_total (change (unless_acked ids) rows) id q,
  get-changed (unless_acked ids) rows q,
  get-changed (unless_acked (ids ++ id ∷ [])) rows q,
  list_any-append (is_same_id q) ids (id ∷ []),
))

-- ---- a consumer that is removed

module _ (rows new : List (Id × RowState)) (a b : ConsumerIndex) (name : List ℕ) (agreed : IsAgreed rows a)
    (left : (x : Id) → indexed_row new x ≡ cond (has_pending_id a name x) None (indexed_row rows x)) where
  pub rows-without : rows_of new ≡ change (unless_owned name) (rows_of rows)
  rows-without = same_rows _ _ (λ q. grind (
    arith,
    get-rows_of new q,
    left q,
    agreed name q,
    get-rows_of rows q,
    get-changed (unless_owned name) (rows_of rows) q,
  ))

  pub agreed-without : ((q : List ℕ) → ids_at b q ≡ cond (is_same_name name q) None (ids_at a q)) → IsAgreed new b
  agreed-without u q x = ap (λ o. has_among o x) (u q) ∙ by (is_same_name name q) (indexed_row rows x) refl refl where
    by : (t : Bool) (o : Option RowState) → is_same_name name q ≡ t → indexed_row rows x ≡ o
        → has_among (cond t None (ids_at a q)) x ≡ is_owner (indexed_row new x) q
    by t None e f = grind (arith, left x, agreed q x)
    by t (Some row) e f =
        grind (arith, left x, agreed name x, agreed q x, is_same_name-eq row.consumer name, is_same_name-eq name q)

pub consumers-without : (a b : ConsumerIndex) (name : List ℕ) → ((q : List ℕ) → owner_at b q ≡ cond (is_same_name name q) None (owner_at a q)) → consumers_of b ≡ remove (consumers_of a) name
consumers-without a b name u = same_consumers _ _ (λ q. grind (
  arith,
  get-consumers_of b q,
  get-consumers_of a q,
  u q,
  is_same_name-symm name q,
  get-remove nat_list_cmp_total (consumers_of a) name q,
))

-- the ids that are left are those of the consumers that are left
pub ids-without : (a b : ConsumerIndex) (name : List ℕ) → ((q : List ℕ) → owner_at b q ≡ cond (is_same_name name q) None (owner_at a q)) → (q : List ℕ) → ids_at b q ≡ cond (is_same_name name q) None (ids_at a q)
ids-without a b name u q = grind (arith, u q)

pub left-none : (rows : List (Id × RowState)) (a : ConsumerIndex) (name : List ℕ) → ids_at a name ≡ None → (x : Id) → indexed_row rows x ≡ cond (has_pending_id a name x) None (indexed_row rows x)
left-none rows a name none x = ap (λ (o : Option (BTreeSet Id)). cond (has_among o x) None (indexed_row rows x)) (sym none)

pub left-some : (rows new : List (Id × RowState)) (a : ConsumerIndex) (name : List ℕ) (s : BTreeSet Id) → ids_at a name ≡ Some s
    → ((x : Id) → indexed_row new x ≡ cond (list_any (is_same_id x) s.keys) None (indexed_row rows x)) → (x : Id) → indexed_row new x ≡ cond (has_pending_id a name x) None (indexed_row rows x)
left-some rows new a name s some is x = is x ∙ ap (λ (o : Option (BTreeSet Id)). cond (has_among o x) None (indexed_row rows x)) (sym some)

-- ---- what is true of every group

pub up_to-empty : (cursor : Id) → IsUpTo cursor empty
up_to-empty cursor x e = absurd (grind (arith, get-empty {X = RowState} id_cmp x))

pub key-change : (f : Id → RowState → Option RowState) (rows : Rows) (x : Id) → has_key (change f rows) x ≡ true → has_key rows x ≡ true
key-change f rows x e = grind (arith, get-changed f rows x)

pub up_to-change : (f : Id → RowState → Option RowState) (cursor : Id) (rows : Rows) → IsUpTo cursor rows → IsUpTo cursor (change f rows)
up_to-change f cursor rows up x e = up x (key-change f rows x e)

pub named-agreed : (rows : List (Id × RowState)) (a : ConsumerIndex) → IsAgreed rows a → IsNamed (consumers_of a) (rows_of rows)
named-agreed rows a agreed name x e = grind (arith, has_name-consumers_of a name, agreed name x, get-rows_of rows x)
