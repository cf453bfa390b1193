-- How progress in a request is stored.
use Rattle.std.proofs.Common.{◌≡◌, ℕ, ◌+◌, ◌-◌, ◌≤◌, suc, List, [], ◌∷◌, ◌++◌, length, take, drop, Some, None, Ok, Err}
use Rattle.std.proofs.Common.{sym, ap, ◌∙◌, subst, arith, length-drop}
use Rattle.std.proofs.lemmas.List.{take-append-le, drop-append-le, drop-drop, append-nil}
use Rattle.xs_resp.specs.declared.header.Part.TheVariants.{Count}
use Rattle.xs_resp.specs.declared.header.Header.{Header}
use Rattle.xs_resp.specs.declared.word.Span.{Span}
use Rattle.xs_resp.specs.declared.progress.Progress.{Progress}
use Rattle.xs_resp.specs.declared.read_fault.ProtocolFault.{ProtocolFault}
use Rattle.xs_resp.specs.Outcome.{◌>>=◌, Keeps}
use Rattle.xs_resp.specs.Header.{header}
use Rattle.xs_resp.specs.Reading.{bulk_string, text_in, behind_words, words, request}
use Rattle.xs_resp.specs.Progress.{IsProgressOf}
use Rattle.xs_resp.proofs.Outcomes.{after-after}
use Rattle.xs_resp.proofs.Reading.{header_ends, word-ok}
use Rattle.xs_resp.proofs.DecisionStays.{header-keeps, word-keeps}

-- without its header a request isn't complete
pub request-none : (bytes : List ℕ) → header Count bytes ≡ Ok None → request bytes ≡ Ok None
unfolding request
request-none bytes e = ap (λ o. o >>= λ (h : Header). behind_words [] h.end (words h.number (drop h.end bytes))) e

-- a fault of its header is a fault of the request
pub request-err : (bytes : List ℕ) (wrong : ProtocolFault) → header Count bytes ≡ Err wrong → request bytes ≡ Err wrong
unfolding request
request-err bytes wrong e = ap (λ o. o >>= λ (h : Header). behind_words [] h.end (words h.number (drop h.end bytes))) e

-- a header that was read stays read
pub header-later : (bytes more : List ℕ) (h : Header) → header Count bytes ≡ Ok (Some h) → header Count (bytes ++ more) ≡ Ok (Some h)
header-later bytes more h e = subst (λ o. Keeps o (header Count (bytes ++ more))) e (header-keeps Count bytes more)

-- a word that was read stays read
pub word-later : (bytes more : List ℕ) (span : Span) → bulk_string bytes ≡ Ok (Some span) → bulk_string (bytes ++ more) ≡ Ok (Some span)
word-later bytes more span e = subst (λ o. Keeps o (bulk_string (bytes ++ more))) e (word-keeps bytes more)

-- its bytes stay the same
pub text-later : (bytes more : List ℕ) (span : Span) → span.start ≤ span.end → span.end ≤ length bytes → text_in (bytes ++ more) span ≡ text_in bytes span
text-later bytes more span order within =
    ap (take (span.end - span.start)) (drop-append-le span.start bytes more (omega arith))
    ∙ take-append-le (span.end - span.start) (drop span.start bytes) more (omega (arith, length-drop span.start bytes))

-- after its header a request follows
pub follows-header : (bytes : List ℕ) (h : Header) → header Count bytes ≡ Ok (Some h) → IsProgressOf bytes (record { at = h.end; left = h.number })
unfolding request
follows-header bytes h e =
    let ends = header_ends Count bytes h e in
    record {
      within = ends.1;
      passed = [];
      passes = λ more.
          ap (λ o. o >>= λ (k : Header). behind_words [] k.end (words k.number (drop k.end (bytes ++ more)))) (header-later bytes more h e)
          ∙ ap (λ b. behind_words [] h.end (words h.number b)) (drop-append-le h.end bytes more ends.1);
    }

-- one word on
pub follows-word : (bytes : List ℕ) (progress : Progress) (left : ℕ) (span : Span) → IsProgressOf bytes progress → progress.left ≡ suc left → bulk_string (drop progress.at bytes) ≡ Ok (Some span) → IsProgressOf bytes (record { at = progress.at + (span.end + 2); left = left })
unfolding words
follows-word bytes progress left span f some w =
    let rest = drop progress.at bytes in
    let at = progress.at in
    let next = span.end + 2 in
    let read = word-ok rest span w in
    let order : span.start ≤ span.end = omega (arith, read.start_is, read.end_is) in
    let inside : next ≤ length rest = read.whole in
    record {
      within = omega (arith, length-drop at bytes);
      passed = f.passed ++ text_in rest span ∷ [];
      passes = λ more.
          f.passes more
          ∙ ap (λ k. behind_words f.passed at (words k (rest ++ more))) some
          ∙ ap (λ o. behind_words f.passed at (o >>= λ (s : Span). behind_words (text_in (rest ++ more) s ∷ []) (s.end + 2) (words left (drop (s.end + 2) (rest ++ more))))) (word-later rest more span w)
          ∙ ap (λ t. behind_words f.passed at (behind_words (t ∷ []) next (words left (drop next (rest ++ more))))) (text-later rest more span order (omega arith))
          ∙ ap (λ b. behind_words f.passed at (behind_words (text_in rest span ∷ []) next (words left b))) (drop-append-le next rest more inside ∙ ap (λ b. b ++ more) (drop-drop next at bytes))
          ∙ after-after f.passed (text_in rest span ∷ []) at next (words left (drop (at + next) bytes ++ more));
    }

-- the request, by the progress of its reading
pub follows-here : (bytes : List ℕ) (progress : Progress) → (f : IsProgressOf bytes progress) → request bytes ≡ behind_words f.passed progress.at (words progress.left (drop progress.at bytes))
follows-here bytes progress f =
    ap request (sym (append-nil bytes)) ∙ f.passes [] ∙ ap (λ b. behind_words f.passed progress.at (words progress.left b)) (append-nil (drop progress.at bytes))

-- a word that isn't complete
pub follows-none : (bytes : List ℕ) (progress : Progress) (left : ℕ) → IsProgressOf bytes progress → progress.left ≡ suc left → bulk_string (drop progress.at bytes) ≡ Ok None → request bytes ≡ Ok None
unfolding words
follows-none bytes progress left f some w =
    let rest = drop progress.at bytes in
    follows-here bytes progress f
    ∙ ap (λ k. behind_words f.passed progress.at (words k rest)) some
    ∙ ap (λ o. behind_words f.passed progress.at (o >>= λ (s : Span). behind_words (text_in rest s ∷ []) (s.end + 2) (words left (drop (s.end + 2) rest)))) w

-- a word with a fault
pub follows-err : (bytes : List ℕ) (progress : Progress) (left : ℕ) (wrong : ProtocolFault) → IsProgressOf bytes progress → progress.left ≡ suc left → bulk_string (drop progress.at bytes) ≡ Err wrong → request bytes ≡ Err wrong
unfolding words
follows-err bytes progress left wrong f some w =
    let rest = drop progress.at bytes in
    follows-here bytes progress f
    ∙ ap (λ k. behind_words f.passed progress.at (words k rest)) some
    ∙ ap (λ o. behind_words f.passed progress.at (o >>= λ (s : Span). behind_words (text_in rest s ∷ []) (s.end + 2) (words left (drop (s.end + 2) rest)))) w

-- no word is left
pub follows-all : (bytes : List ℕ) (progress : Progress) → (f : IsProgressOf bytes progress) → progress.left ≡ 0 → request bytes ≡ Ok (Some (record { words = f.passed; end = progress.at }))
unfolding words
follows-all bytes progress f none =
    let rest = drop progress.at bytes in
    follows-here bytes progress f
    ∙ ap (λ k. behind_words f.passed progress.at (words k rest)) none
    ∙ ap (λ ws. Ok (Some (record { words = ws; end = progress.at + 0 }))) (append-nil f.passed)
    ∙ ap (λ n. Ok (Some (record { words = f.passed; end = n }))) (omega arith)
