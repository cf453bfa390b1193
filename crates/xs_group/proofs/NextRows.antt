-- A row after all others.
use Rattle.xs_group.proofs.Terms.{◌≡◌, Bool, true, false, ◌&&◌, List, [], ◌∷◌, ◌++◌, Some, None, ap, refl, T}
use Rattle.xs_group.proofs.Terms.{is_sorted, has_key, find, arith, Id, id_cmp, is_below}
use Rattle.xs_group.proofs.Terms.{below-not_same, below-trans, above-greater, is_same_id-symm, get-insert_by}
use Rattle.xs_group.proofs.Terms.{Touch, RowState, Rows, ids_total, with_rows, with_touch, row_after_touch}
use Rattle.xs_group.proofs.Terms.{set_one, last_id, length, IsOrdered, IsUpTo, is_same_id-eq, rows_of}
use Rattle.std.specs.List.{list_all}
use Rattle.std.specs.FinMap.Entries.{put}
use Rattle.xs_bytes.specs.SortedMap.{get, insert_by}
use Rattle.xs_group.specs.NextRow.{is_past_rows}
use Rattle.xs_group.proofs.Ordered.{entries-rows_of, first, second}
use Rattle.xs_group.proofs.RemovedRows.{get-changed}
use Rattle.xs_group.proofs.Views.{RowMap, same_rows}

joined : (p q a b : Bool) → p ≡ (a && b) → (a ≡ true → q ≡ true) → p ≡ (q && (a && b))
joined p q true b e h = grind (arith, h refl)
joined p q false b e h = grind arith

-- an id above the last is above all
pub past-last : (es : List (Id × RowState)) (x last : Id) → T (is_sorted id_cmp es) → Some last ≡ last_id es
    → is_below last x ≡ list_all (λ e. is_below e.0 x) es
past-last [] x last s e = cc
past-last (f ∷ []) x last s e = grind arith
past-last (f ∷ g ∷ es) x last s e =
    let rises : is_below f.0 g.0 ≡ true = by (is_below f.0 g.0) _ (first _ _ s) in
    joined (is_below last x) (is_below f.0 x) (is_below g.0 x) (list_all (λ e. is_below e.0 x) es)
    (past-last (g ∷ es) x last (second _ _ s) e) (λ h. below-trans f.0 g.0 x rises h) where
      by : (a b : Bool) → T (a && b) → a ≡ true
      by a b h = grind arith

-- every id is above all if there are none
pub past-nothing : (es : List (Id × RowState)) (x : Id) → length es ≡ 0 → true ≡ list_all (λ e. is_below e.0 x) es
past-nothing [] x e = refl
past-nothing (f ∷ es) x e = absurd (omega arith)

pub past-without_last : (es : List (Id × RowState)) (x : Id) → None ≡ last_id es
    → true ≡ list_all (λ e. is_below e.0 x) es
past-without_last [] x e = refl
past-without_last (f ∷ []) x e = cc
past-without_last (f ∷ g ∷ es) x e = absurd (no-last f g es e) where
  no-last : (f g : Id × RowState) (es : List (Id × RowState)) → None ≡ last_id (f ∷ g ∷ es) → ⊥
  no-last f g [] e = cc
  no-last f g (h ∷ es) e = no-last g h es e

pub past-rows_of : (m : RowMap) (x : Id) → IsOrdered id_cmp m
    → is_past_rows x (rows_of m.entries) ≡ list_all (λ e. is_below e.0 x) m.entries
past-rows_of m x o = ap (λ es. list_all (λ e. is_below e.0 x) es) (entries-rows_of m o)

find-past : (es : List (Id × RowState)) (x : Id) → list_all (λ e. is_below e.0 x) es ≡ true → find id_cmp x es ≡ None
find-past [] x h = refl
find-past (e ∷ es) x h = grind (arith, find-past es x, below-not_same e.0 x, is_same_id-symm e.0 x)

put-past : (es : List (Id × RowState)) (x : Id) (row : RowState) → list_all (λ e. is_below e.0 x) es ≡ true
    → put id_cmp x row es ≡ es ++ (x, row) ∷ []
put-past [] x row h = refl
put-past (e ∷ es) x row h = grind (arith, put-past es x row, above-greater e.0 x)

-- such an id has no row
pub free-past : (rows : Rows) (x : Id) → is_past_rows x rows ≡ true → has_key rows x ≡ false
unfolding get
free-past rows x h = grind (arith, find-past rows.entries x)

-- its row is inserted after the others
pub row-behind : (rows : Rows) (x : Id) (row : RowState) → is_past_rows x rows ≡ true
    → (insert_by ids_total rows x row).entries ≡ rows.entries ++ (x, row) ∷ []
unfolding insert_by
row-behind rows x row h = put-past rows.entries x row h

-- no row is above the cursor afterwards either
pub up_to-next : (cursor id : Id) (row : RowState) (rows : Rows) → IsUpTo cursor rows → is_below cursor id ≡ false
    → IsUpTo cursor (insert_by ids_total rows id row)
up_to-next cursor id row rows up h x e = grind (arith, get-insert_by ids_total rows id row x, up x, is_same_id-eq x id)

-- a row that is inserted, and then gets a time and a count
pub put-touched : (rows : Rows) (id : Id) (touch : Touch) (row : RowState)
    → set_one id (Some touch) (with_rows (id ∷ []) row rows) ≡ insert_by ids_total rows id (with_touch touch row)
put-touched rows id touch row = same_rows _ _ (λ q. grind (
  arith,
  get-changed (row_after_touch id touch) (insert_by ids_total rows id row) q,
  get-insert_by ids_total rows id row q,
  get-insert_by ids_total rows id (with_touch touch row) q,
))
