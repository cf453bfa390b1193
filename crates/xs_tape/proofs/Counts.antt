-- The number of bytes of words as they are sent.
use Rattle.std.proofs.Common.{◌≡◌, ◌≢◌, ℕ, ◌+◌, ◌<◌, ◌≤◌, List, [], ◌∷◌, ◌++◌, length, take, drop, map, get_or, decimal, ap, ◌∙◌, arith, length-append}
use Rattle.xs_resp.specs.Line.{crlf, line}
use Rattle.xs_resp.specs.Grammar.{sent_word, sent_words, spelling}
use Rattle.xs_tape.specs.Escape.{escaped}
use Rattle.xs_tape.specs.Records.{with_size}
use Rattle.xs_tape.proofs.Walks.{sent_more, sent_split}

-- a word after others takes no more than is left
pub sent_within : (words : List (List ℕ)) (i : ℕ) → i < length words
    → length (sent_words (map escaped (take i words))) + length (sent_word (escaped (get_or words i []))) ≤ length (sent_words (map escaped words))
sent_within words i lt =
    omega (
      arith,
      ap length (sent_more words i lt),
      length-append (sent_words (map escaped (take i words))) (sent_word (escaped (get_or words i []))),
      ap length (sent_split words (i + 1)),
      length-append (sent_words (map escaped (take (i + 1) words))) (sent_words (map escaped (drop (i + 1) words))),
    )

-- the size of a request, and its first word
pub size_left : (sent behind : List (List ℕ)) (word : List ℕ) (len count one two : ℕ) → sent ≡ word ∷ behind → (sent ≢ [] → len ≡ length (spelling sent)) → count ≡ length sent → one ≡ length (line 42 count)
    → two ≡ length (line 36 (length word)) → len ≡ one + two + length word + 2 + length (sent_words behind)
size_left sent behind word len count one two e whole n f g =
    omega (
      arith,
      whole (λ none. absurd (cc (none, e))),
      f,
      g,
      ap (λ n. length (line 42 n)) n,
      ap (λ ws. length (sent_words ws)) e,
      length-append (line 42 (length sent)) (sent_words sent),
      length-append (sent_word word) (sent_words behind),
      length-append (line 36 (length word)) (word ++ crlf),
      length-append word crlf,
    )

-- the first of sized words
pub size_word : (sent behind words : List (List ℕ)) (word : List ℕ) → sent ≡ word ∷ behind → sent ≡ with_size words → word ≡ decimal (length (sent_words behind))
size_word sent behind words word e is =
    let first : word ≡ decimal (length (sent_words words)) = cc (e, is) in
    let rest : words ≡ behind = cc (e, is) in
    first ∙ ap (λ ws. decimal (length (sent_words ws))) rest
