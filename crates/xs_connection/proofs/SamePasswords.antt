-- Passwords, compared byte by byte.
use Rattle.std.proofs.Common.{◌≡◌, ℕ, zero, suc, ◌<◌, Bool, true, false, ◌&&◌, List, [], ◌∷◌, length, take, get_or, nat_eq, bytes_eq, refl, ◌∙◌, arith, ap}

and_more : (a b c : Bool) → (a && (b && c)) ≡ ((a && b) && c)
and_more true b c = refl
and_more false b c = refl

and_true : (a : Bool) → (a && true) ≡ a
and_true true = refl
and_true false = refl

-- one byte more
pub same_more : (i : ℕ) (a b : List ℕ) (d e : ℕ) → i < length a → i < length b
    → bytes_eq (take (suc i) a) (take (suc i) b) ≡ (bytes_eq (take i a) (take i b) && nat_eq (get_or a i d) (get_or b i e))
same_more i [] b d e in_a in_b = absurd (omega (arith, in_a))
same_more i (x ∷ a) [] d e in_a in_b = absurd (omega (arith, in_b))
same_more zero (x ∷ a) (y ∷ b) d e in_a in_b = and_true (nat_eq x y)
same_more (suc i) (x ∷ a) (y ∷ b) d e in_a in_b =
    ap (λ r. nat_eq x y && r) (same_more i a b d e (omega (arith, in_a)) (omega (arith, in_b))) ∙ and_more (nat_eq x y) (bytes_eq (take i a) (take i b)) (nat_eq (get_or a i d) (get_or b i e))
