-- A claim that is carried out.
use Rattle.xs_group.proofs.Terms.{◌≡◌, ℕ, ◌+◌, Bool, false, cond, not, inl, inr, List, [], ◌∷◌, map, filter}
use Rattle.xs_group.proofs.Terms.{option_and_then, sym, refl, subst, T, below_all, is_sorted, change, Id, id_cmp}
use Rattle.xs_group.proofs.Terms.{is_same_id, is_below, has_id, is_same_id-symm, Claim, ClaimRule, is_taken, is_hit}
use Rattle.xs_group.proofs.Terms.{without_repeats, from_start, scanned_part, row_after_claim, RowState, Rows}
use Rattle.xs_group.proofs.Terms.{GroupState, unless_acked, rows_of, indexed_row, row_after_move, ids_scanned_after}
use Rattle.xs_group.proofs.Terms.{AreDistinct}
use Rattle.xs_group.proofs.Terms.{IsClaimOn, arith}
use Rattle.xs_group.proofs.Ordered.{first, second}
use Rattle.xs_group.proofs.Views.{same_rows, get-rows_of}
use Rattle.xs_group.proofs.RemovedRows.{get-changed}
use Rattle.xs_group.proofs.Scanning.{scanned-after}

-- ---- no id is claimed twice

has-filter : (p : Id → Bool) (x : Id) (ids : List Id) → has_id ids x ≡ false → has_id (filter p ids) x ≡ false
has-filter p x [] e = e
has-filter p x (y ∷ ys) e = grind (arith, has-filter p x ys)

pub apart-filter : (p : Id → Bool) (ids : List Id) → AreDistinct ids → AreDistinct (filter p ids)
apart-filter p [] a = tt
apart-filter p (y ∷ ys) a = grind (arith, has-filter p y ys a.0, apart-filter p ys a.1)

not_kept : (x : Id) (ids : List Id) → has_id (filter (λ y. not (is_same_id y x)) ids) x ≡ false
not_kept x [] = refl
not_kept x (y ∷ ys) = grind (arith, not_kept x ys, is_same_id-symm x y)

pub apart-without_repeats : (ids : List Id) → AreDistinct (without_repeats ids)
apart-without_repeats [] = tt
apart-without_repeats (x ∷ xs) = (not_kept x (without_repeats xs), apart-filter (λ y. not (is_same_id y x)) (without_repeats xs) (apart-without_repeats xs))

above-keys : (x : Id) (es : List (Id × RowState)) → T (below_all id_cmp x es) → has_id (map (λ e. e.0) es) x ≡ false
above-keys x [] h = refl
above-keys x (e ∷ es) h = grind (arith, above-keys x es)

apart-keys : (es : List (Id × RowState)) → T (is_sorted id_cmp es) → AreDistinct (map (λ e. e.0) es)
apart-keys [] h = tt
apart-keys (e ∷ es) h = (above-keys e.0 es (first _ _ h), apart-keys es (second _ _ h))

module _ (hit : Id → Bool) (limit : ℕ) where
  has-scanned : (hits seen : ℕ) (x : Id) (ids : List Id) → has_id ids x ≡ false → has_id (ids_scanned_after hit limit hits seen ids) x ≡ false
  has-scanned hits seen x [] e = e
  has-scanned hits seen x (y ∷ ys) e = grind (arith, has-scanned (hits + cond (hit y) 1 0) (seen + 1) x ys)

  apart-scanned : (hits seen : ℕ) (ids : List Id) → AreDistinct ids → AreDistinct (ids_scanned_after hit limit hits seen ids)
  apart-scanned hits seen [] a = tt
  apart-scanned hits seen (y ∷ ys) a = grind (
    arith,
    has-scanned (hits + cond (hit y) 1 0) (seen + 1) y ys a.0,
    apart-scanned (hits + cond (hit y) 1 0) (seen + 1) ys a.1,
  )

pub apart-claim : (group : GroupState) (now : ℕ) (rule : ClaimRule) (claim : Claim) → IsClaimOn group now rule claim → AreDistinct claim.take
apart-claim group now rule claim (inl w) = subst (λ (c : Claim). AreDistinct c.take) (sym w.is) (apart-filter (is_taken group.rows.entries w.present now rule) (without_repeats w.ids) (apart-without_repeats w.ids))
apart-claim group now rule claim (inr w) =
    let rows = group.rows.entries in
    let hit = is_hit rows w.present now rule in
    let ids = from_start w.start rows in
    let apart = apart-filter (λ x. not (is_below x w.start)) (map (λ e. e.0) rows) (apart-keys rows group.rows.sorted) in
    subst (λ (c : Claim). AreDistinct c.take) (sym w.is) (apart-filter (is_taken rows w.present now rule) (scanned_part hit w.limit ids)
    (subst AreDistinct (sym (scanned-after hit w.limit ids)) (apart-scanned hit w.limit 0 0 ids apart)))

-- ---- claimed first, and then removed

pub rows-settled : (name : List ℕ) (now : ℕ) (rule : ClaimRule) (claim : Claim) (rows : Rows)
    → change (unless_acked claim.removed) (change (row_after_move name now rule claim.take) rows) ≡ change (row_after_claim name now rule claim) rows
rows-settled name now rule claim rows =
    same_rows _ _ (λ q. grind (
      arith,
      get-changed (unless_acked claim.removed) (change (row_after_move name now rule claim.take) rows) q,
      get-changed (row_after_move name now rule claim.take) rows q,
      get-changed (row_after_claim name now rule claim) rows q,
    ))

pub rows-moved : (a b : List (Id × RowState)) (name : List ℕ) (now : ℕ) (rule : ClaimRule) (ids : List Id)
    → ((x : Id) → indexed_row b x ≡ option_and_then (row_after_move name now rule ids x) (indexed_row a x)) → rows_of b ≡ change (row_after_move name now rule ids) (rows_of a)
rows-moved a b name now rule ids is =
    same_rows _ _ (λ q.
    grind (arith, get-rows_of b q, is q, get-rows_of a q, get-changed (row_after_move name now rule ids) (rows_of a) q))
