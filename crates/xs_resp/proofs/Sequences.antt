-- Words in a row, by the grammar and as they are read.
use Rattle.std.proofs.Common.{◌≡◌, ℕ, ◌+◌, ◌<◌, zero, suc, List, [], ◌∷◌, ◌++◌, length, drop, Some, Ok, Err, inl, inr}
use Rattle.std.proofs.Common.{refl, sym, ap, ◌∙◌, subst, arith, append_assoc, length-append}
use Rattle.std.proofs.lemmas.List.{drop_at, drop-drop, drop-append-le}
use Rattle.xs_resp.specs.declared.word.Span.{Span}
use Rattle.xs_resp.specs.declared.read_fault.ProtocolFault.{ProtocolFault}
use Rattle.xs_resp.specs.Outcome.{◌>>=◌, Keeps}
use Rattle.xs_resp.specs.Reading.{Found, bulk_string, text_in, behind_words, words}
use Rattle.xs_resp.specs.Grammar.{sent_word, sent_words, AreSizes, WordFault}
use Rattle.xs_resp.proofs.Outcomes.{bind-ok, bind-err, after-after, after-none, after-keeps, Keeps-bind}
use Rattle.xs_resp.proofs.Reading.{word-ok}
use Rattle.xs_resp.proofs.DecisionStays.{word-keeps}
use Rattle.xs_resp.proofs.Progressing.{text-later}
use Rattle.xs_resp.proofs.SentWords.{word-read, word-fault, word-sent, text-sent, end-sent, sent-span}

-- words that were read
pub record WordsRead (number : ℕ) (bytes : List ℕ) (found : Found) : Type 0 where
  pub count : length found.words ≡ number
  pub sizes : AreSizes found.words
  pub whole : bytes ≡ sent_words found.words ++ drop found.end bytes
  pub end : found.end ≡ length (sent_words found.words)

pub words-read : (number : ℕ) (bytes : List ℕ) (found : Found) → words number bytes ≡ Ok (Some found) → WordsRead number bytes found
unfolding words
words-read zero bytes found e =
    let none : Found = record { words = []; end = 0 } in
    let is : none ≡ found = cc in
    subst (λ f. WordsRead zero bytes f) is (record { count = refl; sizes = tt; whole = refl; end = refl })
words-read (suc number) bytes found e =
    let first = bind-ok (bulk_string bytes) _ found e in
    let span = first.0 in
    let behind = drop (span.end + 2) bytes in
    let further = bind-ok (words number behind) _ found first.2 in
    let others = further.0 in
    let text = text_in bytes span in
    let one = word-read bytes span first.1 in
    let more = words-read number behind others further.1 in
    let all : Found = record { words = text ∷ others.words; end = (span.end + 2) + others.end } in
    let is : all ≡ found = cc in
    subst (λ f. WordsRead (suc number) bytes f) is (record {
      count = ap (λ n. suc n) more.count;
      sizes = (one.size, more.sizes);
      whole = one.whole
          ∙ ap (λ b. sent_word text ++ b) more.whole
          ∙ ap (λ b. sent_word text ++ (sent_words others.words ++ b)) (drop-drop others.end (span.end + 2) bytes)
          ∙ sym (append_assoc (sent_word text) (sent_words others.words) (drop ((span.end + 2) + others.end) bytes));
      end = omega (arith, one.end, more.end, length-append (sent_word text) (sent_words others.words));
    })

-- a fault that was found after some words
pub record WordsFault (number : ℕ) (bytes : List ℕ) (wrong : ProtocolFault) : Type 0 where
  pub passed : List (List ℕ)
  pub rest : List ℕ
  pub whole : bytes ≡ sent_words passed ++ rest
  pub some_left : length passed < number
  pub sizes : AreSizes passed
  pub fault : WordFault rest wrong

pub words-fault : (number : ℕ) (bytes : List ℕ) (wrong : ProtocolFault) → words number bytes ≡ Err wrong → WordsFault number bytes wrong
unfolding words
words-fault zero bytes wrong e = absurd (cc)
words-fault (suc number) bytes wrong e =
    elim (bind-err (bulk_string bytes) _ wrong e) [
      | inl here ↦ record { passed = []; rest = bytes; whole = refl; some_left = omega arith; sizes = tt; fault = word-fault bytes wrong here }
      | inr first ↦ (let span = first.0 in
          let behind = drop (span.end + 2) bytes in
          let text = text_in bytes span in
          elim (bind-err (words number behind) _ wrong first.2) [
            | inl there ↦ (let one = word-read bytes span first.1 in
                let more = words-fault number behind wrong there in
                record {
                  passed = text ∷ more.passed;
                  rest = more.rest;
                  whole = one.whole ∙ ap (λ b. sent_word text ++ b) more.whole ∙ sym (append_assoc (sent_word text) (sent_words more.passed) more.rest);
                  some_left = omega (arith, more.some_left);
                  sizes = (one.size, more.sizes);
                  fault = more.fault;
                })
            | inr never ↦ absurd (cc (never.2))
          ])
    ]

-- words that were sent are read
pub words-sent : (texts : List (List ℕ)) (left : ℕ) (rest : List ℕ) → AreSizes texts → words (length texts + left) (sent_words texts ++ rest) ≡ behind_words texts (length (sent_words texts)) (words left rest)
unfolding words
words-sent [] left rest sizes = ap (λ n. words n rest) (omega arith) ∙ sym (after-none (words left rest))
words-sent (text ∷ texts) left rest sizes =
    let others = sent_words texts ++ rest in
    let all = sent_word text ++ others in
    let span = sent-span text in
    let more = length texts + left in
    let number : length (text ∷ texts) + left ≡ suc more = omega arith in
    ap (λ n. words n (sent_words (text ∷ texts) ++ rest)) number
    ∙ ap (words (suc more)) (append_assoc (sent_word text) (sent_words texts) rest)
    ∙ ap (λ o. o >>= λ (s : Span). behind_words (text_in all s ∷ []) (s.end + 2) (words more (drop (s.end + 2) all))) (word-sent text others sizes.0)
    ∙ ap (λ t. behind_words (t ∷ []) (span.end + 2) (words more (drop (span.end + 2) all))) (text-sent text others)
    ∙ ap (λ b. behind_words (text ∷ []) (span.end + 2) (words more b)) (drop_at (sent_word text) others (span.end + 2) (sym (end-sent text)))
    ∙ ap (behind_words (text ∷ []) (span.end + 2)) (words-sent texts left rest sizes.1)
    ∙ after-after (text ∷ []) texts (span.end + 2) (length (sent_words texts)) (words left rest)
    ∙ ap (λ n. behind_words (text ∷ texts) n (words left rest)) (omega (arith, end-sent text, length-append (sent_word text) (sent_words texts)))

-- what is decided on words stays decided
pub words-keep : (number : ℕ) (bytes more : List ℕ) → Keeps (words number bytes) (words number (bytes ++ more))
unfolding words
words-keep zero bytes more = refl
words-keep (suc number) bytes more =
    Keeps-bind _ _ _ _ (word-keeps bytes more) (λ span e.
    let read = word-ok bytes span e in
    let next = span.end + 2 in
    let text = text-later bytes more span (omega (arith, read.start_is, read.end_is)) (omega (arith, read.whole)) in
    let rest = drop-append-le next bytes more read.whole in
    let first = behind_words (text_in bytes span ∷ []) next (words number (drop next bytes)) in
    subst (λ t. Keeps first (behind_words (t ∷ []) next (words number (drop next (bytes ++ more))))) (sym text)
    (subst (λ b. Keeps first (behind_words (text_in bytes span ∷ []) next (words number b))) (sym rest)
    (after-keeps (text_in bytes span ∷ []) next _ _ (words-keep number (drop next bytes) more))))
