-- The number of bytes of the words of a record.
use Rattle.std.proofs.Common.{◌≡◌, inl, inr, ℕ, ◌+◌, ◌*◌, ◌^◌, ◌<◌, ◌≤◌, List, [], ◌∷◌, ◌++◌, length, map, decimal, ap, arith, length-append}
use Rattle.std.proofs.lemmas.Fmt.{length-decimal-le}
use Rattle.std.proofs.lemmas.List.{length-map}
use Rattle.std.specs.List.{concat}
use Rattle.xs_resp.specs.declared.header.Part.TheVariants.{Count, Size}
use Rattle.xs_resp.specs.HeaderPart.{limit}
use Rattle.xs_resp.specs.Grammar.{sent_word, sent_words, AreSizes}
use Rattle.xs_resp.specs.Line.{crlf, line}
use Rattle.xs_resp.proofs.Numbers.{decimal-short}
use Rattle.xs_tape.specs.Checksum.{crc32c}
use Rattle.xs_tape.specs.Escape.{escape, escaped}
use Rattle.xs_tape.specs.Records.{CanBeSpelled, with_checksum, with_size, record_words}
use Rattle.xs_tape.proofs.Escapes.{ways}

pub checksum_small : (bytes : List ℕ) → crc32c bytes < 2 ^ 32
unfolding crc32c
checksum_small bytes = omega arith

escape-short : (byte : ℕ) → length (escape byte) ≤ 2
escape-short byte =
    elim (ways byte).way [
      | inl a ↦ omega (arith, ap length a.1)
      | inr b ↦ elim b [ inl a ↦ omega (arith, ap length a.1) | inr a ↦ omega (arith, ap length a.2) ]
    ]

pub escaped-short : (word : List ℕ) → length (escaped word) ≤ 2 * length word
escaped-short [] = omega arith
escaped-short (byte ∷ word) = omega (arith, length-append (escape byte) (escaped word), escape-short byte, escaped-short word)

-- the size of words that RESP can spell has at most 15 digits
words-long : (words : List (List ℕ)) → AreSizes words → length (sent_words words) ≤ 536870946 * length words
words-long [] sizes = omega arith
words-long (word ∷ words) sizes =
    omega (
      arith,
      sizes.0,
      words-long words sizes.1,
      length-append (sent_word word) (sent_words words),
      length-append (line 36 (length word)) (word ++ crlf),
      length-append (decimal (length word)) crlf,
      length-append word crlf,
      decimal-short (length word) (omega (arith, sizes.0)),
    )

pub size-bound : (words : List (List ℕ)) → AreSizes words → length words ≤ limit Count → length (sent_words words) < 1000000000000000
size-bound words sizes number = omega (arith, words-long words sizes, number)

pub size-small : (words : List (List ℕ)) → CanBeSpelled (with_size words) → length (sent_words words) < 1000000000000000
size-small words can = size-bound words can.sizes.1 (omega (arith, can.number))

pub can_be_spelled : (first : List ℕ) (rest : List (List ℕ)) → length rest + 3 ≤ limit Count → AreSizes (map escaped rest) → length (escaped first) ≤ limit Size → CanBeSpelled (record_words first rest)
can_be_spelled first rest number sizes short =
    let sum = crc32c (concat (first ∷ rest)) in
    let words = map escaped (with_checksum first rest) in
    let all : AreSizes words =
    (short, (omega (arith, escaped-short (decimal sum), decimal-short sum (checksum_small (concat (first ∷ rest)))), sizes)) in
    let small = size-bound words all (omega (arith, number, length-map rest escaped)) in
    record {
      number = omega (arith, number, length-map rest escaped);
      sizes = (omega (arith, length-decimal-le 15 (length (sent_words words)) (omega arith) (omega (arith, small)) (omega (arith, small))), all);
    }

-- a record has its size and its checksum in addition
pub count_is : (first : List ℕ) (rest : List (List ℕ)) → length rest + 3 ≡ length (record_words first rest)
count_is first rest = omega (arith, length-map rest escaped)

-- a record of an event, whose first word is a moment, can be spelled if its other words can be
pub event_spelled : (words : List (List ℕ)) (now : ℕ) → now < 2 ^ 64 → ((first : List ℕ) → length (escaped first) ≤ limit Size → CanBeSpelled (record_words first words)) → CanBeSpelled (record_words (decimal now) words)
event_spelled words now small can = can (decimal now) (omega (arith, escaped-short (decimal now), length-decimal-le 20 now (omega arith) (omega (arith, small)) small))
