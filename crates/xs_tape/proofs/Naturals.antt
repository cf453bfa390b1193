-- Numbers as they are spelled.
use Rattle.std.proofs.Common.{◌≡◌, ◌≢◌, ℕ, ◌^◌, ◌<◌, Bool, true, false, List, decimal, Some, None, inl, inr, not, refl, ap, ◌∙◌, sym, nat_lt}
use Rattle.std.proofs.lemmas.Bool.{and_parts, and_from, not_from_false, ltb-true, lt-ltb, cond-true, cond-false}
use Rattle.xs_bytes.specs.Number.{is_number, has_leading_zero, value_of, number_of, natural_of}
use Rattle.xs_resp.specs.HeaderPart.{is_natural}
use Rattle.xs_resp.proofs.Numbers.{natural-is, decimal-natural, value_of-decimal}
use Rattle.xs_resp.proofs.Reading.{chosen}

natural-as : (text : List ℕ) → is_number text ≡ true → has_leading_zero text ≡ false → is_natural text ≡ true
unfolding is_natural
natural-as text number first = and_from (is_number text) _ number (not_from_false (has_leading_zero text) first)

-- a number without leading zeros is spelled in one way
pub spelled_once : (text : List ℕ) (n : ℕ) → natural_of text ≡ Some n → text ≡ decimal n
spelled_once text n e =
    elim (chosen (has_leading_zero text) None (number_of text) (Some n) e) [
      | inl none ↦ absurd (cc (none.1))
      | inr some ↦ elim (chosen _ (Some (value_of text)) None (Some n) some.1) [
        | inl is ↦
            let parts = and_parts (is_number text) _ is.0 in
            let same : value_of text ≡ n = cc in
            natural-is text (natural-as text parts.0 some.0) (ltb-true (value_of text) (2 ^ 64) parts.1) ∙ ap decimal same
        | inr none ↦ absurd (cc (none.1))
      ]
    ]

not-true : (b : Bool) → not b ≡ true → b ≡ false
not-true true e = absurd (cc)
not-true false e = refl

-- and read back
pub natural_back : (n : ℕ) → n < 2 ^ 64 → natural_of (decimal n) ≡ Some n
unfolding is_natural
natural_back n small =
    let text = decimal n in
    let parts = and_parts (is_number text) _ (decimal-natural n small) in
    let value = value_of-decimal n small in
    let fits : nat_lt (value_of text) (2 ^ 64) ≡ true = ap (λ v. nat_lt v (2 ^ 64)) value ∙ lt-ltb n (2 ^ 64) small in
    cond-false (has_leading_zero text) _ _ (not-true (has_leading_zero text) parts.1)
    ∙ cond-true _ (Some (value_of text)) None (and_from (is_number text) _ parts.0 fits) ∙ ap (λ v. Some v) value

-- a number that was read is the only one
pub same_number : (text : List ℕ) (found n : ℕ) → natural_of text ≡ Some found → n < 2 ^ 64 → text ≡ decimal n → found ≡ n
same_number text found n e small is =
    let same : Some found ≡ Some n = sym e ∙ ap natural_of is ∙ natural_back n small in
    cc

pub no_number : (text : List ℕ) (n : ℕ) → natural_of text ≡ None → n < 2 ^ 64 → text ≢ decimal n
no_number text n e small is =
    let same : None ≡ Some n = sym e ∙ ap natural_of is ∙ natural_back n small in
    absurd (cc (same))
