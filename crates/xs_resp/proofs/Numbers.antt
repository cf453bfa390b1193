-- Numbers of headers, and their one spelling.
use Rattle.std.proofs.Common.{◌≡◌, ◌≢◌, ℕ, ◌^◌, ◌<◌, ◌≤◌, true, false, eqb, not, List, [], ◌∷◌, length, get_or, fold}
use Rattle.std.proofs.Common.{Some, inl, inr, ◌⊎◌, refl, sym, ap, ◌∙◌, arith, rules, decimal}
use Rattle.std.specs.List.{list_all}
use Rattle.std.proofs.lemmas.Bool.{and_parts, and_from, eqb-true, ne_eqb, lt-ltb, ltb-true, not-true, not_from_false}
use Rattle.std.proofs.lemmas.Bool.{cases_eq, and_left, and_right, eq-eqb, leb-true, false≢true, cond-true, cond-false}
use Rattle.std.proofs.lemmas.Str.Parse.{IsNumeralModel, numerals_by_fold, not_in_digits}
use Rattle.std.proofs.lemmas.Fmt.{decimal-digits_value, digits_decimal, digits_value-decimal, decimal_nonempty}
use Rattle.std.proofs.lemmas.Fmt.{first_decimal, decimal_digit, length-decimal-le}
use Rattle.xs_bytes.specs.Number.{is_digit, with_digit, value_of, is_number, has_leading_zero}
use Rattle.xs_resp.specs.declared.header.Part.{Part}
use Rattle.xs_resp.specs.declared.header.Part.TheVariants.{Count, Size}
use Rattle.xs_resp.specs.HeaderPart.{limit, is_natural, is_minus_one, number_in}
use Rattle.xs_resp.specs.Grammar.{HasNoCr}
use Rattle.xs_resp.proofs.Reading.{chosen}

-- digits and their value, in the terms of std
own : IsNumeralModel (λ ds. list_all is_digit ds ≡ true) (λ ds. fold with_digit 0 ds)
own = numerals_by_fold _ (search rules) (λ n ds. fold with_digit n ds) (search rules)

-- a leading zero, by the first byte
leading-zero : (text : List ℕ) → has_leading_zero text ≡ false → get_or text 0 0 ≡ 48 → 0 < length text → length text ≡ 1
leading-zero [] other first some = absurd (omega arith)
leading-zero (byte ∷ []) other first some = refl
leading-zero (byte ∷ next ∷ rest) other first some = absurd (false≢true (sym other ∙ eq-eqb byte 48 first))

no-leading-zero : (text : List ℕ) → (get_or text 0 0 ≡ 48 → length text ≤ 1) → has_leading_zero text ≡ false
no-leading-zero [] one = refl
no-leading-zero (byte ∷ []) one = refl
no-leading-zero (byte ∷ next ∷ rest) one = ne_eqb byte 48 (λ e. absurd (omega (arith, one e)))

-- a number below 2^64 has one spelling
pub natural-is : (text : List ℕ) → is_natural text ≡ true → value_of text < 2 ^ 64 → text ≡ decimal (value_of text)
unfolding is_natural
natural-is text h small =
    let parts = and_parts (is_number text) (not (has_leading_zero text)) h in
    let number = and_parts _ (list_all is_digit text) parts.0 in
    let some = ltb-true 0 (length text) number.0 in
    sym (decimal-digits_value own text number.1 some (λ first. leading-zero text (not-true (has_leading_zero text) parts.1) first some) small)

-- and this spelling is a number
pub decimal-natural : (n : ℕ) → n < 2 ^ 64 → is_natural (decimal n) ≡ true
unfolding is_natural
decimal-natural n small =
    let digits = digits_decimal own n small in
    let some = lt-ltb 0 (length (decimal n)) (decimal_nonempty n small) in
    let first = no-leading-zero (decimal n) (λ zero_first. elim (cases_eq n 0) [
      | inl none ↦ omega (arith, ap length (ap decimal none ∙ decimal_digit 0 (omega arith)))
      | inr some ↦ absurd (omega (arith, first_decimal n (omega arith) small, zero_first))
    ]) in
    and_from (is_number (decimal n)) (not (has_leading_zero (decimal n))) (and_from _ _ some digits) (not_from_false (has_leading_zero (decimal n)) first)

pub value_of-decimal : (n : ℕ) → n < 2 ^ 64 → value_of (decimal n) ≡ n
value_of-decimal n small = digits_value-decimal own n small

-- digits aren't CR
digits-no-cr : (text : List ℕ) → list_all is_digit text ≡ true → HasNoCr text
digits-no-cr [] h = tt
digits-no-cr (byte ∷ text) h =
    let parts = and_parts (is_digit byte) (list_all is_digit text) h in
    let low = leb-true 48 byte (and_parts _ _ parts.0).0 in
    (λ e. absurd (omega arith), digits-no-cr text parts.1)

pub decimal-no-cr : (n : ℕ) → n < 2 ^ 64 → HasNoCr (decimal n)
decimal-no-cr n small = digits-no-cr (decimal n) (digits_decimal own n small)

pub decimal-short : (n : ℕ) → n < 2 ^ 32 → length (decimal n) < 30
decimal-short n small = omega (arith, length-decimal-le 10 n (omega arith) (omega arith) (omega arith))

-- the text -1
two-bytes : (text : List ℕ) → length text ≡ 2 → get_or text 0 0 ≡ 45 → get_or text 1 0 ≡ 49 → text ≡ 45 ∷ 49 ∷ []
two-bytes [] two first second = absurd (omega arith)
two-bytes (a ∷ []) two first second = absurd (omega arith)
two-bytes (a ∷ b ∷ []) two first second = cc
two-bytes (a ∷ b ∷ c ∷ rest) two first second = absurd (omega arith)

minus-one-is : (text : List ℕ) → is_minus_one text ≡ true → text ≡ 45 ∷ 49 ∷ []
minus-one-is text h =
    let parts = and_parts _ _ h in
    let front = and_parts _ _ parts.0 in
    two-bytes text (eqb-true (length text) 2 front.0) (eqb-true (get_or text 0 0) 45 front.1) (eqb-true (get_or text 1 0) 49 parts.1)

decimal-not-minus-one : (n : ℕ) → n < 2 ^ 64 → is_minus_one (decimal n) ≡ false
decimal-not-minus-one n small =
    let first : get_or (decimal n) 0 0 ≢ 45 = not_in_digits own (decimal n) 45 (digits_decimal own n small) (λ range. omega (arith, range)) 0 (decimal_nonempty n small) in
    and_left _ _ (and_right (eqb (length (decimal n)) 2) _ (ne_eqb (get_or (decimal n) 0 0) 45 first))

-- the number of a header, from its text
pub number-size : (text : List ℕ) (n : ℕ) → number_in Size text ≡ Some n → n < 2 ^ 64 → text ≡ decimal n
unfolding number_in
number-size text n e small =
    elim (chosen (is_natural text) _ _ _ e) [
      | inl w ↦ (let same : value_of text ≡ n = cc in natural-is text w.0 (omega arith) ∙ ap decimal same)
      | inr w ↦ absurd (cc)
    ]

pub number-count : (text : List ℕ) (n : ℕ) → number_in Count text ≡ Some n → n < 2 ^ 64 → (text ≡ decimal n) ⊎ ((n ≡ 0) × (text ≡ 45 ∷ 49 ∷ []))
unfolding number_in
number-count text n e small =
    elim (chosen (is_minus_one text) _ _ _ e) [
      | inl w ↦ inr (cc, minus-one-is text w.0)
      | inr w ↦ inl (number-size text n w.1 small)
    ]

-- and the text, from the number
pub number-decimal : (part : Part) (n : ℕ) → n ≤ limit part → number_in part (decimal n) ≡ Some n
unfolding number_in
number-decimal Size n h =
    let small : n < 2 ^ 64 = omega arith in
    cond-true (is_natural (decimal n)) _ _ (decimal-natural n small) ∙ ap (λ v. Some v) (value_of-decimal n small)
number-decimal Count n h =
    let small : n < 2 ^ 64 = omega arith in
    cond-false (is_minus_one (decimal n)) _ _ (decimal-not-minus-one n small) ∙ cond-true (is_natural (decimal n)) _ _ (decimal-natural n small) ∙ ap (λ v. Some v) (value_of-decimal n small)
