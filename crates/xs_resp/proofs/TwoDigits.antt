-- Numbers of two digits.
use Rattle.std.proofs.Common.{◌≡◌, ℕ, ◌+◌, ◌/◌, ◌%◌, ◌<◌, ◌≤◌, [], ◌∷◌, ◌++◌, ◌∙◌, map, decimal, ap, arith}
use Rattle.std.specs.Int.Digits.{digits_of}
use Rattle.std.proofs.lemmas.Fmt.{decimal-digits_of}
use Rattle.std.proofs.lemmas.Int.Digits.{digits_of_step}

pub two-digits : (n : ℕ) → 10 ≤ n → n < 100 → decimal n ≡ (48 + n / 10) ∷ (48 + n % 10) ∷ []
two-digits n low high =
    let ten = n / 10 in
    let few : 0 < ten = omega arith in
    let none : ten / 10 ≡ 0 = omega arith in
    let same : ten % 10 ≡ ten = omega arith in
    let first : digits_of 10 ten ≡ ten ∷ [] =
    digits_of_step 10 ten (omega arith) few ∙ ap (λ k. digits_of 10 k ++ (ten % 10 ∷ [])) none ∙ ap (λ d. d ∷ []) same in
    decimal-digits_of n (omega arith) (omega arith) ∙ ap (map (λ d. 48 + d)) (digits_of_step 10 n (omega arith) (omega arith) ∙ ap (λ ds. ds ++ (n % 10 ∷ [])) first)
