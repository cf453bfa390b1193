-- Facts about the value of digits.
use Rattle.std.proofs.Common.{◌≡◌, ℕ, ◌+◌, ◌*◌, ◌-◌, ◌<◌, ◌≤◌, List, [], ◌∷◌, ◌++◌, true, length, take, drop, get_or}
use Rattle.std.proofs.Common.{fold, ap, ◌∙◌, arith, Some, None}
use Rattle.std.proofs.lemmas.List.Sums.{fold-append}
use Rattle.std.proofs.lemmas.List.{take-append-drop, take_more}
use Rattle.std.proofs.lemmas.Bool.Decides.{nat_tests}
use Rattle.std.specs.List.{list_all}
use Rattle.xs_bytes.specs.Number.{with_digit, value_of, number_of, is_digit}

-- more digits have no lower value
pub grows : (text : List ℕ) (n : ℕ) → n ≤ fold with_digit n text
grows [] n = omega arith
grows (b ∷ text) n = omega (arith, grows text (n * 10 + (b - 48)))

-- the first digits have no higher value than all of them
pub value-take-le : (text : List ℕ) (i : ℕ) → fold with_digit 0 (take i text) ≤ value_of text
value-take-le text i =
    let whole : fold with_digit 0 (take i text ++ drop i text) ≡ fold with_digit 0 text = ap (fold with_digit 0) (take-append-drop i text) in
    let split = fold-append with_digit 0 (take i text) (drop i text) in
    let least = grows (drop i text) (fold with_digit 0 (take i text)) in
    omega arith

-- one more digit
pub value_more : (text : List ℕ) (i : ℕ) → i < length text → fold with_digit 0 (take (i + 1) text) ≡ fold with_digit 0 (take i text) * 10 + (get_or text i 0 - 48)
value_more text i h = ap (fold with_digit 0) (take_more text i 0 h) ∙ fold-append with_digit 0 (take i text) (get_or text i 0 ∷ [])

-- the value up to the last digit read is within the value of all
pub value_at : (text : List ℕ) (i : ℕ) → i < length text → fold with_digit 0 (take i text) * 10 + (get_or text i 0 - 48) ≤ value_of text
value_at text i h = let one = value_more text i h in let least = value-take-le text (i + 1) in omega arith

pub number_of-big : (text : List ℕ) → 18446744073709551616 ≤ value_of text → number_of text ≡ None
number_of-big text h = grind (arith, nat_tests)

pub number_of-small : (text : List ℕ) → 0 < length text → list_all is_digit text ≡ true → value_of text < 18446744073709551616 → number_of text ≡ Some (value_of text)
number_of-small text n d h = grind (arith, nat_tests)
