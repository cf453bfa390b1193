-- Times and counts that are set.
use Rattle.xs_group.proofs.Terms.{◌≡◌, ℕ, cond, List, [], ◌∷◌, ◌++◌, map, Option, Some, None, sym, ap, refl, UpdatesBy}
use Rattle.xs_group.proofs.Terms.{get, change, Id, id_cmp, is_same_id, has_id, is_same_id-eq, is_same_id-symm, Touch}
use Rattle.xs_group.proofs.Terms.{DeliveryRow, RowState, Rows, row_after_reread, rows_of, ConsumerIndex, indexed_row}
use Rattle.xs_group.proofs.Terms.{IsAgreed, shown_row, shown_rows, touch_set, with_touch, row_after_touch, set_one}
use Rattle.xs_group.proofs.Terms.{set_rows, list_any, ◌||◌}
use Rattle.xs_group.proofs.Terms.{row_ids, arith}
use Rattle.xs_group.proofs.Views.{RowMap, get-rows_of, same_rows}
use Rattle.xs_group.proofs.RemovedRows.{get-changed, change-nothing}

-- ---- one row

abbrev touched : Option Touch → Option RowState → Option RowState
touched None row = row
touched (Some touch) None = None
touched (Some touch) (Some row) = Some (with_touch touch row)

pub rows-touched : (m n : RowMap) (id : Id) (touch : Touch) (row : RowState) → indexed_row m.entries id ≡ Some row → UpdatesBy id_cmp (id_cmp id) m n (Some (with_touch touch row))
    → rows_of n.entries ≡ set_one id (Some touch) (rows_of m.entries)
rows-touched m n id touch row found u =
    same_rows _ _ (λ q. grind (
      arith,
      get-rows_of n.entries q,
      get-rows_of m.entries q,
      get-changed (row_after_touch id touch) (rows_of m.entries) q,
      u.0 q,
      is_same_id-symm id q,
      is_same_id-eq q id,
    ))

pub untouched : (rows : Rows) (id : Id) (touch : Touch) → get rows id ≡ None → rows ≡ set_one id (Some touch) rows
untouched rows id touch none =
    sym (change-nothing (row_after_touch id touch) rows (λ q. grind (arith, is_same_id-eq q id)))

pub agreed-touched : (m n : RowMap) (a : ConsumerIndex) (id : Id) (touch : Touch) (row : RowState) → IsAgreed m.entries a → indexed_row m.entries id ≡ Some row
    → UpdatesBy id_cmp (id_cmp id) m n (Some (with_touch touch row)) → IsAgreed n.entries a
agreed-touched m n a id touch row agreed found u name x = grind (arith, agreed name x, is_same_id-eq id x, u.0 x)

-- ---- the rows of a read

get-set_one : (id : Id) (touch : Option Touch) (rows : Rows) (q : Id) → get (set_one id touch rows) q ≡ cond (is_same_id q id) (touched touch (get rows q)) (get rows q)
get-set_one id None rows q = grind arith
get-set_one id (Some touch) rows q = grind (arith, get-changed (row_after_touch id touch) rows q)

twice : (touch : Option Touch) (row : Option RowState) → touched touch (touched touch row) ≡ touched touch row
twice touch row = grind arith

-- each id's touch is set, once or more
get-set_rows : (now : Option ℕ) (make : Id → DeliveryRow) → ((x : Id) → (make x).id ≡ x) → (ids : List Id) (rows : Rows) (q : Id)
    → get (set_rows now (map make ids) rows) q ≡ cond (has_id ids q) (touched (touch_set now (make q)) (get rows q)) (get rows q)
get-set_rows now make is [] rows q = refl
get-set_rows now make is (x ∷ xs) rows q =
    grind (
      arith,
      get-set_rows now make is xs (set_one (make x).id (touch_set now (make x)) rows) q,
      get-set_one (make x).id (touch_set now (make x)) rows q,
      is x,
      is_same_id-eq q x,
      twice (touch_set now (make q)) (get rows q),
    )

-- a read of the consumer's own entries
pub rows-reread : (now : ℕ) (present ids : List Id) (rows : Rows) → set_rows (Some now) (shown_rows rows present ids) rows ≡ change (row_after_reread now ids present) rows
rows-reread now present ids rows =
    same_rows _ _ (λ q. grind (
      arith,
      get-set_rows (Some now) (shown_row rows present) (λ x. refl) ids rows q,
      get-changed (row_after_reread now ids present) rows q,
    ))

-- whether any of them is in the stream
pub any-shown : (rows : Rows) (present ids : List Id) → list_any (λ r. r.present) (shown_rows rows present ids) ≡ list_any (has_id present) ids
any-shown rows present [] = refl
any-shown rows present (x ∷ xs) = ap (λ rest. has_id present x || rest) (any-shown rows present xs)

-- and undone
pub rows-unread : (now : ℕ) (present ids : List Id) (rows : Rows) → set_rows None (shown_rows rows present ids) (change (row_after_reread now ids present) rows) ≡ rows
rows-unread now present ids rows =
    same_rows _ _ (λ q. grind (
      arith,
      get-set_rows None (shown_row rows present) (λ x. refl) ids (change (row_after_reread now ids present) rows) q,
      get-changed (row_after_reread now ids present) rows q,
    ))

pub set_rows-more : (now : Option ℕ) (rs : List DeliveryRow) (r : DeliveryRow) (rows : Rows) → set_one r.id (touch_set now r) (set_rows now rs rows) ≡ set_rows now (rs ++ r ∷ []) rows
set_rows-more now [] r rows = refl
set_rows-more now (s ∷ rs) r rows = set_rows-more now rs r (set_one s.id (touch_set now s) rows)

pub row_ids-append : (rs : List DeliveryRow) (r : DeliveryRow) → row_ids (rs ++ r ∷ []) ≡ row_ids rs ++ r.id ∷ []
row_ids-append [] r = refl
row_ids-append (s ∷ rs) r = ap (λ rest. s.id ∷ rest) (row_ids-append rs r)
