-- What is decided on some bytes stays decided on every continuation.
use Rattle.std.proofs.Common.{◌≡◌, ℕ, ◌+◌, ◌<◌, ◌≤◌, suc, true, false, cond, eqb, ltb, leb, List, [], ◌∷◌, ◌++◌, length}
use Rattle.std.proofs.Common.{take, drop, get_or, inl, inr, None, Ok, Err, refl, sym, ap, ◌∙◌, arith, length-append}
use Rattle.std.proofs.lemmas.Bool.{cond_both, cond-true, cond-false, cases_lt, le-leb, lt-leb, le-ltb, leb-true}
use Rattle.std.proofs.lemmas.Bool.{leb-false, ltb-false}
use Rattle.std.proofs.lemmas.List.{get_or_append_left, take-append-le, drop-append-le, drop_all}
use Rattle.xs_resp.specs.declared.header.Part.{Part}
use Rattle.xs_resp.specs.declared.header.Part.TheVariants.{Size}
use Rattle.xs_resp.specs.declared.read_fault.ProtocolFault.TheVariants.{Shape}
use Rattle.xs_resp.specs.Outcome.{Keeps}
use Rattle.xs_resp.specs.HeaderPart.{marker, number_in}
use Rattle.xs_resp.specs.Header.{is_not_cr, text_len, within_limit, line_at, header}
use Rattle.xs_resp.specs.Reading.{span_before_crlf, bulk_string}
use Rattle.xs_resp.proofs.Outcomes.{Keeps-same, Keeps-bind}

-- the text before the first CR doesn't get shorter
pub text_len-append-le : (line more : List ℕ) → text_len line ≤ text_len (line ++ more)
text_len-append-le [] more = omega arith
text_len-append-le (byte ∷ line) more =
    elim (is_not_cr byte) as (λ b. cond b (1 + text_len line) 0 ≤ cond b (1 + text_len (line ++ more)) 0) [
      | true ↦ omega (arith, text_len-append-le line more)
      | false ↦ omega arith
    ]

-- once the first CR is there it stays
pub text_len-append : (line more : List ℕ) → text_len line < length line → text_len (line ++ more) ≡ text_len line
text_len-append [] more h = absurd (omega arith)
text_len-append (byte ∷ line) more h =
    (elim (is_not_cr byte) as (λ b. cond b (1 + text_len line) 0 < suc (length line) → cond b (1 + text_len (line ++ more)) 0 ≡ cond b (1 + text_len line) 0) [
      | true ↦ λ l. omega (arith, text_len-append line more (omega arith))
      | false ↦ λ l. refl
    ]) h

-- a line that is complete
pub line_at-whole : (part : Part) (line : List ℕ) (cr : ℕ) → cr < 30 → cr + 2 ≤ length line → line_at part line cr ≡ cond (eqb (get_or line (cr + 1) 0) 10) (within_limit part (cr + 3) (number_in part (take cr line))) (Err Shape)
unfolding line_at
line_at-whole part line cr short whole =
    cond-false (leb 30 cr) _ _ (lt-leb 30 cr short) ∙ cond-false (ltb (length line) (cr + 2)) _ _ (le-ltb (length line) (cr + 2) whole)

pub line_at-append : (part : Part) (line more : List ℕ) (cr : ℕ) → cr < 30 → cr + 2 ≤ length line → line_at part (line ++ more) cr ≡ line_at part line cr
line_at-append part line more cr short whole =
    line_at-whole part (line ++ more) cr short (omega (arith, length-append line more))
    ∙ ap (λ b. cond (eqb b 10) (within_limit part (cr + 3) (number_in part (take cr (line ++ more)))) (Err Shape)) (get_or_append_left line more 0 (cr + 1) (omega arith))
    ∙ ap (λ t. cond (eqb (get_or line (cr + 1) 0) 10) (within_limit part (cr + 3) (number_in part t)) (Err Shape)) (take-append-le cr line more (omega arith))
    ∙ sym (line_at-whole part line cr short whole)

line-keeps : (part : Part) (line more : List ℕ) → Keeps (line_at part line (text_len line)) (line_at part (line ++ more) (text_len (line ++ more)))
unfolding line_at
line-keeps part line more =
    let cr = text_len line in
    let later = line_at part (line ++ more) (text_len (line ++ more)) in
    cond_both (leb 30 cr) _ _ (λ r. Keeps r later)
    (λ long. cond-true (leb 30 (text_len (line ++ more))) _ _ (le-leb 30 (text_len (line ++ more)) (omega (arith, text_len-append-le line more, leb-true 30 cr long))))
    (λ short. cond_both (ltb (length line) (cr + 2)) _ _ (λ r. Keeps r later)
    (λ _. tt)
    (λ whole. let here : cr + 2 ≤ length line = ltb-false (length line) (cr + 2) whole in
    Keeps-same _ later (ap (line_at part (line ++ more)) (text_len-append line more (omega arith)) ∙ line_at-append part line more cr (leb-false 30 cr short) here ∙ line_at-whole part line cr (leb-false 30 cr short) here)))

pub header-keeps : (part : Part) (bytes more : List ℕ) → Keeps (header part bytes) (header part (bytes ++ more))
unfolding header
header-keeps part [] more = tt
header-keeps part (byte ∷ line) more =
    elim (eqb byte (marker part)) as (λ b. Keeps (cond b (line_at part line (text_len line)) (Err Shape)) (cond b (line_at part (line ++ more) (text_len (line ++ more))) (Err Shape))) [
      | true ↦ line-keeps part line more
      | false ↦ refl
    ]

closed-keeps : (start end : ℕ) (rest more : List ℕ) → Keeps (span_before_crlf start end rest) (span_before_crlf start end (rest ++ more))
closed-keeps start end [] more = tt
closed-keeps start end (cr ∷ []) [] = Keeps-same (span_before_crlf start end (cr ∷ [])) _ refl
closed-keeps start end (cr ∷ []) (lf ∷ more) =
    elim (eqb cr 13) as (λ b. Keeps (cond b (Ok None) (Err Shape)) (cond b (span_before_crlf start end (13 ∷ lf ∷ more)) (Err Shape))) [ true ↦ tt | false ↦ refl ]
closed-keeps start end (cr ∷ lf ∷ rest) more = Keeps-same (span_before_crlf start end (cr ∷ lf ∷ rest)) _ refl

pub word-keeps : (bytes more : List ℕ) → Keeps (bulk_string bytes) (bulk_string (bytes ++ more))
unfolding bulk_string
word-keeps bytes more =
    Keeps-bind _ _ _ _ (header-keeps Size bytes more) (λ h e.
    let end = h.end + h.number in
    elim (cases_lt (length bytes) end) [
      | inl far ↦ rw (drop_all end bytes (omega arith)) tt
      | inr near ↦ rw (drop-append-le end bytes more near) (closed-keeps h.end end (drop end bytes) more)
    ])
