-- What tests of emptiness return.
use Rattle.std.proofs.Common.{◌≡◌, ℕ, ◌<◌, ◌==◌, Bool, true, false, List, [], ◌∷◌, length, sym, ◌∙◌, refl, arith}

pub none-came : (got : List ℕ) → length got ≡ 0 → got ≡ []
none-came [] e = refl
none-came (b ∷ got) e = absurd (omega (arith, e))

pub empty-none : {A : Type 0} (items : List A) (empty : Bool) → empty ≡ (length items == 0) → empty ≡ true → items ≡ []
empty-none [] empty is h = refl
empty-none (item ∷ items) empty is h = let e : (length (item ∷ items) == 0) ≡ true = sym is ∙ h in absurd (grind arith)

pub empty-some : {A : Type 0} (items : List A) (empty : Bool) → empty ≡ (length items == 0) → empty ≡ false → 0 < length items
empty-some [] empty is h = let e : true ≡ false = sym is ∙ h in cc
empty-some (item ∷ items) empty is h = omega arith
