-- Ids above a cursor.
use Rattle.xs_group.proofs.Terms.{◌≡◌, ℕ, suc, zero, true, false, List, [], ◌∷◌, ◌++◌, filter, take, Option, Some, None}
use Rattle.xs_group.proofs.Terms.{refl, false≢true, Id, is_below, has_id, AllAbove, Ascends, up_to_limit, is_same_id-eq}
use Rattle.xs_group.proofs.Terms.{below-not_back, below-irrefl, not_above-trans, RowState, Rows, last_of, with_rows}
use Rattle.xs_group.proofs.Terms.{AreFree, IsUpTo, arith}
use Rattle.xs_group.proofs.NewRows.{get-with_rows}

pub above-has : (c : Id) (ids : List Id) → AllAbove c ids → (x : Id) → has_id ids x ≡ true → is_below c x ≡ true
above-has c [] a x e = absurd (false≢true e)
above-has c (y ∷ ys) a x e = grind (arith, is_same_id-eq x y, a.0, above-has c ys a.1 x)

pub free-above : (c : Id) (rows : Rows) (ids : List Id) → IsUpTo c rows → AllAbove c ids → AreFree rows ids
free-above c rows ids up a x e = grind (arith, up x, above-has c ids a x e)

last-not_below : (c : Id) (ids : List Id) → AllAbove c ids → Ascends ids → is_below (last_of c ids) c ≡ false
last-not_below c [] a s = below-irrefl c
last-not_below c (y ∷ ys) a s = not_above-trans (last_of y ys) y c (last-not_below y ys s.0 s.1) (below-not_back c y a.0)

last-up_to : (c : Id) (ids : List Id) → AllAbove c ids → Ascends ids → (x : Id) → has_id ids x ≡ true → is_below (last_of c ids) x ≡ false
last-up_to c [] a s x e = absurd (false≢true e)
last-up_to c (y ∷ ys) a s x e = grind (arith, is_same_id-eq x y, last-not_below y ys s.0 s.1, last-up_to y ys s.0 s.1 x)

pub up_to-later : (c : Id) (ids : List Id) (rows : Rows) → IsUpTo c rows → AllAbove c ids → Ascends ids → IsUpTo (last_of c ids) rows
up_to-later c ids rows up a s x e = not_above-trans (last_of c ids) c x (last-not_below c ids a s) (up x e)

pub up_to-put : (c : Id) (ids : List Id) (row : RowState) (rows : Rows) → IsUpTo c rows → AllAbove c ids → Ascends ids → IsUpTo (last_of c ids) (with_rows ids row rows)
up_to-put c ids row rows up a s x e =
    grind (arith, get-with_rows ids row rows x, last-up_to c ids a s x, up_to-later c ids rows up a s x)

pub last-more : (c : Id) (ids : List Id) (x : Id) → last_of c (ids ++ x ∷ []) ≡ x
last-more c [] x = refl
last-more c (y ∷ ys) x = last-more y ys x

-- ---- the ids that are delivered

filter-above : (c : Id) (ids : List Id) → AllAbove c (filter (λ y. is_below c y) ids)
filter-above c [] = tt
filter-above c (y ∷ ys) = grind (arith, filter-above c ys)

above-take : (x : Id) (n : ℕ) (ids : List Id) → AllAbove x ids → AllAbove x (take n ids)
above-take x zero ids a = tt
above-take x (suc n) [] a = tt
above-take x (suc n) (y ∷ ys) a = (a.0, above-take x n ys a.1)

pub new_ids-above : (limit : Option ℕ) (c : Id) (ids : List Id) → AllAbove c (up_to_limit limit (filter (λ y. is_below c y) ids))
new_ids-above None c ids = filter-above c ids
new_ids-above (Some n) c ids = above-take c n (filter (λ y. is_below c y) ids) (filter-above c ids)
