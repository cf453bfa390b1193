-- The text of a record, as it is written.
use Rattle.std.proofs.Common.{◌≡◌, ℕ, ◌+◌, ◌^◌, ◌<◌, List, ◌∷◌, ◌++◌, length, map, decimal, ap, ◌∙◌, arith, append_assoc}
use Rattle.std.specs.List.{concat}
use Rattle.xs_resp.specs.Line.{line}
use Rattle.xs_resp.specs.Grammar.{sent_word, sent_words}
use Rattle.xs_tape.specs.Checksum.{crc32c}
use Rattle.xs_tape.specs.Escape.{escaped}
use Rattle.xs_tape.specs.Records.{CanBeSpelled, with_checksum, record_words, record_text}
use Rattle.xs_tape.proofs.Sizes.{count_is, size-small}

-- a checksum, as it is written
pub record IsSum (first : List ℕ) (rest : List (List ℕ)) (sum : List ℕ) : Type 0 where
  pub is : sum ≡ decimal (crc32c (concat (first ∷ rest)))

pub size_fits : (first sum : List ℕ) (rest : List (List ℕ)) → CanBeSpelled (record_words first rest) → IsSum first rest sum → length (sent_words (map escaped (first ∷ sum ∷ rest))) < 2 ^ 64
size_fits first sum rest can s =
    let small = size-small (map escaped (with_checksum first rest)) can in
    omega (arith, small, ap (λ t. length (sent_words (map escaped (first ∷ t ∷ rest)))) s.is)

-- the head, and the words after it
pub record_parts : (first sum : List ℕ) (rest : List (List ℕ)) (count size : ℕ) → count ≡ length rest + 3 → size ≡ length (sent_words (map escaped (first ∷ sum ∷ rest))) → IsSum first rest sum
    → (line 42 count ++ sent_word (decimal size)) ++ (sent_word (escaped first) ++ (sent_word (escaped sum) ++ sent_words (map escaped rest))) ≡ record_text first rest
record_parts first sum rest count size n s is =
    let words = map escaped (with_checksum first rest) in
    let number : count ≡ length (record_words first rest) = n ∙ count_is first rest in
    let bytes : size ≡ length (sent_words words) = s ∙ ap (λ t. length (sent_words (map escaped (first ∷ t ∷ rest)))) is.is in
    append_assoc (line 42 count) (sent_word (decimal size)) (sent_words (map escaped (first ∷ sum ∷ rest)))
    ∙ ap (λ n. line 42 n ++ (sent_word (decimal size) ++ sent_words (map escaped (first ∷ sum ∷ rest)))) number
    ∙ ap (λ k. line 42 (length (record_words first rest)) ++ (sent_word (decimal k) ++ sent_words (map escaped (first ∷ sum ∷ rest)))) bytes
    ∙ ap (λ t. line 42 (length (record_words first rest)) ++ (sent_word (decimal (length (sent_words words))) ++ sent_words (map escaped (first ∷ t ∷ rest)))) is.is
