-- Texts without a zero byte.
use Rattle.std.proofs.Common.{◌≡◌, inl, inr, ℕ, ◌+◌, ◌%◌, ◌^◌, ◌<◌, List, [], ◌∷◌, ◌++◌, length, map, decimal, sym, ap, ◌∙◌, subst, arith}
use Rattle.std.proofs.lemmas.Fmt.{decimal_by_steps}
use Rattle.xs_resp.specs.Line.{crlf, line}
use Rattle.xs_resp.specs.Grammar.{sent_word, sent_words, AreSizes}
use Rattle.xs_tape.specs.Escape.{escape, escaped}
use Rattle.xs_tape.specs.Crash.{HasNoZero}
use Rattle.std.specs.List.{AllByRecursion}
use Rattle.xs_resp.specs.Grammar.{spelling}
use Rattle.xs_tape.specs.Records.{with_checksum, record_words, spellings, CanBeSpelled, CanBeLogged}
use Rattle.xs_tape.proofs.Escapes.{ways, escape-other, escaped-append}
use Rattle.xs_tape.proofs.Sizes.{size-small}

pub zero-append : (xs ys : List ℕ) → HasNoZero xs → HasNoZero ys → HasNoZero (xs ++ ys)
zero-append [] ys h k = k
zero-append (x ∷ xs) ys h k = (h.0, zero-append xs ys h.1 k)

escape-no-zero : (byte : ℕ) → HasNoZero (escape byte)
escape-no-zero byte =
    elim (ways byte).way [
      | inl a ↦ subst HasNoZero (sym a.1) (λ e. absurd (omega (arith, e)), (λ e. absurd (omega (arith, e)), tt))
      | inr b ↦ elim b [
        | inl a ↦ subst HasNoZero (sym a.1) (λ e. absurd (omega (arith, e)), (λ e. absurd (omega (arith, e)), tt))
        | inr a ↦ subst HasNoZero (sym a.2) (a.0, tt)
      ]
    ]

pub escaped-no-zero : (word : List ℕ) → HasNoZero (escaped word)
escaped-no-zero [] = tt
escaped-no-zero (byte ∷ word) = zero-append (escape byte) (escaped word) (escape-no-zero byte) (escaped-no-zero word)

pub decimal-no-zero : (n : ℕ) → n < 2 ^ 64 → HasNoZero (decimal n)
decimal-no-zero n small =
    decimal_by_steps (λ n ds. HasNoZero ds) (λ n le. (λ e. absurd (omega (arith, e)), tt)) (λ n ds le h. zero-append ds ((48 + n % 10) ∷ []) h (λ e. absurd (omega (arith, e)), tt)) n small

pub crlf-no-zero : HasNoZero crlf
crlf-no-zero = (λ e. absurd (omega (arith, e)), (λ e. absurd (omega (arith, e)), tt))

line-no-zero : (marker n : ℕ) → 0 < marker → n < 2 ^ 64 → HasNoZero (line marker n)
line-no-zero marker n some small = (λ e. absurd (omega (arith, e, some)), zero-append (decimal n) crlf (decimal-no-zero n small) crlf-no-zero)

words-no-zero : (words : List (List ℕ)) → AreSizes words → AllByRecursion HasNoZero words → HasNoZero (sent_words words)
words-no-zero [] sizes none = tt
words-no-zero (text ∷ words) sizes none =
    zero-append (sent_word text) (sent_words words)
    (zero-append (line 36 (length text)) (text ++ crlf) (line-no-zero 36 (length text) (omega arith) (omega (arith, sizes.0))) (zero-append text crlf none.0 crlf-no-zero))
    (words-no-zero words sizes.1 none.1)

spelling-no-zero : (words : List (List ℕ)) → CanBeLogged words → HasNoZero (spelling words)
spelling-no-zero words can =
    zero-append (line 42 (length words)) (sent_words words)
    (line-no-zero 42 (length words) (omega arith) (omega (arith, can.spelled.number)))
    (words-no-zero words can.spelled.sizes can.no_zero)

pub spellings-no-zero : (requests : List (List (List ℕ))) → AllByRecursion CanBeLogged requests → HasNoZero (spellings requests)
spellings-no-zero [] can = tt
spellings-no-zero (words ∷ requests) can = zero-append (spelling words) (spellings requests) (spelling-no-zero words can.0) (spellings-no-zero requests can.1)

escaped-none-zero : (words : List (List ℕ)) → AllByRecursion HasNoZero (map escaped words)
escaped-none-zero [] = tt
escaped-none-zero (word ∷ words) = (escaped-no-zero word, escaped-none-zero words)

pub record-logged : (first : List ℕ) (rest : List (List ℕ)) → CanBeSpelled (record_words first rest) → CanBeLogged (record_words first rest)
record-logged first rest can =
    let words = map escaped (with_checksum first rest) in
    record { spelled = can; no_zero = (decimal-no-zero (length (sent_words words)) (omega (arith, size-small words can)), escaped-none-zero (with_checksum first rest)) }

-- a number is not escaped
pub decimal_plain : (n : ℕ) → n < 2 ^ 64 → escaped (decimal n) ≡ decimal n
decimal_plain n small =
    decimal_by_steps (λ n ds. escaped ds ≡ ds) (λ n le. ap (λ b. b ++ []) (digit n))
    (λ n ds le h. escaped-append ds ((48 + n % 10) ∷ []) ∙ ap (λ b. b ++ (escape (48 + n % 10) ++ [])) h ∙ ap (λ b. ds ++ (b ++ [])) (digit (n % 10))) n small
  where
    digit : (n : ℕ) → escape (48 + n) ≡ (48 + n) ∷ []
    digit n = escape-other (48 + n) (λ e. absurd (omega (arith, e))) (λ e. absurd (omega (arith, e)))

-- a text that escaping leaves unchanged has no zero
pub plain_no_zero : (bytes : List ℕ) → escaped bytes ≡ bytes → HasNoZero bytes
plain_no_zero bytes e = subst HasNoZero e (escaped-no-zero bytes)
