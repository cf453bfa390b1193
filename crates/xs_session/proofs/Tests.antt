-- What tests of emptiness return.
use Rattle.std.proofs.Common.{◌≡◌, ℕ, ◌<◌, ◌==◌, Bool, true, false, List, [], ◌∷◌, ◌++◌, length, Result, Ok, Err}
use Rattle.std.proofs.Common.{sym, ◌∙◌, refl, arith}
use Rattle.std.specs.Prelude.{IfOk}
use Rattle.xs_io.specs.Passing.{Passing}
use Rattle.xs_io.specs.Device.{Gave}

pub empty-none : {A : Type 0} (items : List A) (empty : Bool) → empty ≡ (length items == 0) → empty ≡ true → items ≡ []
empty-none [] empty is h = refl
empty-none (item ∷ items) empty is h = let e : (length (item ∷ items) == 0) ≡ true = sym is ∙ h in absurd (grind arith)

pub empty-some : {A : Type 0} (items : List A) (empty : Bool) → empty ≡ (length items == 0) → empty ≡ false → 0 < length items
empty-some [] empty is h = let e : true ≡ false = sym is ∙ h in cc
empty-some (item ∷ items) empty is h = omega arith

-- nothing is left, so nothing follows the front
pub none-behind : (piece behind : List ℕ) → piece ++ behind ≡ [] → behind ≡ []
none-behind [] behind none = none
none-behind (b ∷ piece) behind none = cc

-- what was read
pub gave-more : {E : Type 0} (result : Result ℕ E) (old new : Passing) (ended : Bool) (P Q : List ℕ → Type 0) → ((more : List ℕ) → P more → Q more)
    → IfOk result (λ n. Gave old new ended n P) → IfOk result (λ n. Gave old new ended n Q)
gave-more (Ok n) old new ended P Q f (got, size, small, came, end, is) = (got, size, small, came, end, f got is)
gave-more (Err e) old new ended P Q f gave = gave
