-- The words of a complete request, one after the other.
use Rattle.std.proofs.Common.{◌≡◌, ℕ, ◌+◌, ◌-◌, suc, List, [], ◌∷◌, ◌++◌, length, drop, Some, None, Ok, Err, refl}
use Rattle.std.proofs.Common.{sym, ap, ◌∙◌, subst}
use Rattle.xs_resp.specs.declared.header.Part.TheVariants.{Count}
use Rattle.xs_resp.specs.declared.header.Header.{Header}
use Rattle.xs_resp.specs.declared.word.Span.{Span}
use Rattle.xs_resp.specs.Outcome.{Outcome, ◌>>=◌}
use Rattle.xs_resp.specs.Header.{header}
use Rattle.xs_resp.specs.Reading.{Found, bulk_string, text_in, behind_words, words, words_in, request, IsWhole}
use Rattle.xs_resp.proofs.Outcomes.{bind-ok}
use Rattle.xs_resp.proofs.Sequences.{words-read}

-- words after words
in-after : (first : List (List ℕ)) (at : ℕ) (rest : Outcome Found) → IsWhole rest → words_in (behind_words first at rest) ≡ first ++ words_in rest
in-after first at (Ok (Some found)) whole = refl
in-after first at (Ok None) whole = absurd (let read = whole.1 in cc)
in-after first at (Err wrong) whole = absurd (let read = whole.1 in cc)

-- there are as many words as the count
pub words-count : (count : ℕ) (bytes : List ℕ) → IsWhole (words count bytes) → length (words_in (words count bytes)) ≡ count
words-count count bytes whole = ap (λ o. length (words_in o)) whole.1 ∙ (words-read count bytes whole.0 whole.1).count

-- no words
pub no-words : (count : ℕ) (bytes : List ℕ) → count ≡ 0 → words_in (words count bytes) ≡ []
unfolding words
no-words count bytes e = ap (λ n. words_in (words n bytes)) e

-- the first word and those after it are complete
pub record IsFirst (left : ℕ) (bytes : List ℕ) : Type 0 where
  pub span : Span
  pub read : bulk_string bytes ≡ Ok (Some span)
  pub whole : IsWhole (words left (drop (span.end + 2) bytes))
  pub words_are : words_in (words (suc left) bytes) ≡ text_in bytes span ∷ words_in (words left (drop (span.end + 2) bytes))

first-of : (left : ℕ) (bytes : List ℕ) → IsWhole (words (suc left) bytes) → IsFirst left bytes
unfolding words
first-of left bytes whole =
    let first = bind-ok (bulk_string bytes) _ whole.0 whole.1 in
    let span = first.0 in
    let rest = words left (drop (span.end + 2) bytes) in
    let further = bind-ok rest _ whole.0 first.2 in
    let behind : IsWhole rest = (further.0, further.1) in
    let is : words (suc left) bytes ≡ behind_words (text_in bytes span ∷ []) (span.end + 2) rest = ap (λ o. o >>= λ (s : Span). behind_words (text_in bytes s ∷ []) (s.end + 2) (words left (drop (s.end + 2) bytes))) first.1 in
    record {
      span = span;
      read = first.1;
      whole = behind;
      words_are = ap words_in is ∙ in-after (text_in bytes span ∷ []) (span.end + 2) rest behind;
    }

-- if there are words
pub first-word : (count : ℕ) (bytes : List ℕ) → (count ≡ suc (count - 1)) → IsWhole (words count bytes) → IsFirst (count - 1) bytes
first-word count bytes is whole = first-of (count - 1) bytes (subst (λ n. IsWhole (words n bytes)) is whole)

-- a complete request has a header, and that many words
pub request-whole : (bytes : List ℕ) → IsWhole (request bytes) → (h : Header) × (header Count bytes ≡ Ok (Some h)) × IsWhole (words h.number (drop h.end bytes))
unfolding request
request-whole bytes whole =
    let read = bind-ok (header Count bytes) _ whole.0 whole.1 in
    let rest = bind-ok (words (read.0).number (drop (read.0).end bytes)) _ whole.0 read.2 in
    (read.0, read.1, (rest.0, rest.1))

-- its words are those after its header, which are complete
pub behind-header : (bytes : List ℕ) (h : Header) → header Count bytes ≡ Ok (Some h) → IsWhole (request bytes)
    → IsWhole (words h.number (drop h.end bytes)) × (words_in (words h.number (drop h.end bytes)) ≡ words_in (request bytes))
unfolding request
behind-header bytes h e whole =
    let rest = words h.number (drop h.end bytes) in
    let is = ap (λ o. o >>= λ (k : Header). behind_words [] k.end (words k.number (drop k.end bytes))) e in
    let some = bind-ok rest _ whole.0 (sym is ∙ whole.1) in
    let behind : IsWhole rest = (some.0, some.1) in
    (behind, sym (ap words_in is ∙ in-after [] h.end rest behind))
