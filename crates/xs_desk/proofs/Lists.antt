-- Lists by their places.
use Rattle.std.specs.Prelude.{◌≡◌, ◌≢◌, ℕ, zero, suc, ◌<◌, ◌⊎◌, List, [], ◌∷◌, ◌++◌, length, map, slice_get, slice_set}
use Rattle.std.specs.Prelude.{Some, refl}
use Rattle.std.proofs.Common.{inl, inr, arith, sym, ap, ◌∙◌, append_assoc}
use Rattle.std.proofs.lemmas.List.{map-append}
use mathlib.Core.List.{IsPrefix}

pub same_some : {X : Type 0} (x y : X) → Some x ≡ Some y → x ≡ y
same_some x y e = cc

-- the elements of a list with one more at its end
pub snoc-cases : {X : Type 0} (xs : List X) (y : X) (j : ℕ) (x : X) → slice_get (xs ++ y ∷ []) j ≡ Some x → ((slice_get xs j ≡ Some x)) ⊎ ((j ≡ length xs) × (x ≡ y))
snoc-cases [] y zero x e = inr (refl, cc)
snoc-cases [] y (suc j) x e = absurd (cc)
snoc-cases (z ∷ zs) y zero x e = inl e
snoc-cases (z ∷ zs) y (suc j) x e = elim (snoc-cases zs y j x e) [ inl p ↦ inl p | inr p ↦ inr (omega (arith, p.0), p.1) ]

pub still-at : {X : Type 0} (xs : List X) (y : X) (j : ℕ) (x : X) → slice_get xs j ≡ Some x → slice_get (xs ++ y ∷ []) j ≡ Some x
still-at [] y j x e = absurd (cc)
still-at (z ∷ zs) y zero x e = e
still-at (z ∷ zs) y (suc j) x e = still-at zs y j x e

pub last-at : {X : Type 0} (xs : List X) (y : X) → slice_get (xs ++ y ∷ []) (length xs) ≡ Some y
last-at [] y = refl
last-at (z ∷ zs) y = last-at zs y

-- the elements of a list after a write
pub set-cases : {X : Type 0} (xs : List X) (i j : ℕ) (x m : X) → slice_get (slice_set xs i x) j ≡ Some m → ((j ≡ i) × (m ≡ x)) ⊎ ((i ≢ j) × (slice_get xs j ≡ Some m))
set-cases [] i j x m e = absurd (cc)
set-cases (y ∷ ys) zero zero x m e = inl (refl, cc)
set-cases (y ∷ ys) zero (suc j) x m e = inr ((λ q. omega arith), e)
set-cases (y ∷ ys) (suc i) zero x m e = inr ((λ q. omega arith), e)
set-cases (y ∷ ys) (suc i) (suc j) x m e = elim (set-cases ys i j x m e) [ inl p ↦ inl (omega (arith, p.0), p.1) | inr p ↦ inr ((λ q. p.0 (omega (arith, q))), p.1) ]

pub length-slice_set : {X : Type 0} (xs : List X) (i : ℕ) (x : X) → length (slice_set xs i x) ≡ length xs
length-slice_set [] i x = refl
length-slice_set (y ∷ ys) zero x = refl
length-slice_set (y ∷ ys) (suc i) x = omega (arith, length-slice_set ys i x)

pub some-at : {X : Type 0} (xs : List X) (i : ℕ) → i < length xs → (x : X) × (slice_get xs i ≡ Some x)
some-at [] i lt = absurd (omega arith)
some-at (x ∷ xs) zero lt = (x, refl)
some-at (x ∷ xs) (suc i) lt = some-at xs i (omega arith)

pub some-of-map : {X Y : Type 0} (f : X → Y) (xs : List X) (i : ℕ) (y : Y) → slice_get (map f xs) i ≡ Some y → (x : X) × (slice_get xs i ≡ Some x) × (f x ≡ y)
some-of-map f [] i y e = absurd (cc)
some-of-map f (x ∷ xs) zero y e = (x, refl, cc)
some-of-map f (x ∷ xs) (suc i) y e = some-of-map f xs i y e

-- lists with the same at each place are the same
pub same-lists : {X : Type 0} (xs ys : List X) → length xs ≡ length ys → ((i : ℕ) (x : X) → slice_get xs i ≡ Some x → slice_get ys i ≡ Some x) → xs ≡ ys
same-lists [] [] len each = refl
same-lists [] (y ∷ ys) len each = absurd (omega (arith, len))
same-lists (x ∷ xs) [] len each = absurd (omega (arith, len))
same-lists (x ∷ xs) (y ∷ ys) len each =
    let head : y ≡ x = same_some y x (each zero x refl) in
    let tail : xs ≡ ys = same-lists xs ys (omega (arith, len)) (λ i z e. each (suc i) z e) in
    cc

-- a beginning of a list, with each element mapped
pub prefix_map : {X Y : Type 0} (f : X → Y) (xs ys : List X) → IsPrefix xs ys → IsPrefix (map f xs) (map f ys)
prefix_map f xs ys p = (map f p.0, sym (map-append f xs p.0) ∙ ap (map f) p.1)

-- a beginning of a list is one of more
pub prefix_more : {X : Type 0} (xs ys more : List X) → IsPrefix xs ys → IsPrefix xs (ys ++ more)
prefix_more xs ys more p = (p.0 ++ more, sym (append_assoc xs p.0 more) ∙ ap (λ zs. zs ++ more) p.1)
