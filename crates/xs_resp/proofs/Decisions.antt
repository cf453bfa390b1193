-- Requests, by the grammar and as they are read.
use Rattle.std.proofs.Common.{◌≡◌, ℕ, ◌+◌, ◌-◌, ◌≤◌, suc, List, [], ◌∷◌, ◌++◌, length, take, drop, Some, None, Ok, Err}
use Rattle.std.proofs.Common.{inl, inr, lit<, refl, sym, ap, ◌∙◌, subst, arith, append_assoc, length-append}
use Rattle.std.proofs.lemmas.List.{take_at, drop_at, take-append-drop, append-nil, drop-append-le, length-take-le}
use Rattle.std.proofs.lemmas.List.{nil_from_length}
use Rattle.xs_resp.specs.declared.header.Part.TheVariants.{Count}
use Rattle.xs_resp.specs.declared.header.Header.{Header}
use Rattle.xs_resp.specs.declared.read_fault.ProtocolFault.{ProtocolFault}
use Rattle.xs_resp.specs.Line.{line}
use Rattle.xs_resp.specs.HeaderPart.{limit, number_in}
use Rattle.xs_resp.specs.Outcome.{Outcome, ◌>>=◌, Keeps}
use Rattle.xs_resp.specs.Header.{header}
use Rattle.xs_resp.specs.declared.word.Span.{Span}
use Rattle.xs_resp.specs.Reading.{Found, text_in, behind_words, words, request}
use Rattle.xs_resp.specs.Grammar.{sent_words, spelling, null_spelling, AreSizes, Spells, BeginsLine, FaultBehind}
use Rattle.xs_resp.specs.Grammar.{FaultIn, IsOpen}
use Rattle.xs_resp.proofs.Outcomes.{bind-ok, bind-err, cases-outcome, Keeps-bind, after-keeps}
use Rattle.xs_resp.proofs.Reading.{header_ends}
use Rattle.xs_resp.proofs.DecisionStays.{header-keeps}
use Rattle.xs_resp.proofs.Progressing.{request-err}
use Rattle.xs_resp.proofs.Headers.{header-fault, header-err, header-line, begins-header, count-line}
use Rattle.xs_resp.proofs.SentWords.{word-err}
use Rattle.xs_resp.proofs.Sequences.{words-read, words-fault, words-sent, words-keep}

-- what a request reads after its header
behind-header : List ℕ → Header → Outcome Found
behind-header bytes h = behind_words [] h.end (words h.number (drop h.end bytes))

-- the front of bytes that begin with a text
front-is : (bytes text rest : List ℕ) (n : ℕ) → bytes ≡ text ++ rest → n ≡ length text → take n bytes ≡ text
front-is bytes text rest n e len = ap (take n) e ∙ take_at text rest n (sym len)

-- a request that was read is there
pub record IsSpelled (bytes : List ℕ) (found : Found) : Type 0 where
  pub within : found.end ≤ length bytes
  pub spells : Spells (take found.end bytes) found.words

spelled-words : (bytes : List ℕ) (h : Header) (others : Found) → header Count bytes ≡ Ok (Some h) → words h.number (drop h.end bytes) ≡ Ok (Some others) → IsSpelled bytes (record { words = others.words; end = h.end + others.end })
spelled-words bytes h others e w =
    let behind = drop h.end bytes in
    let read = words-read h.number behind others w in
    let ends = header_ends Count bytes h e in
    elim (count-line bytes h e) [
      | inl head ↦ (let all : bytes ≡ spelling others.words ++ drop others.end behind =
          head.0 ∙ ap (λ b. line 42 h.number ++ b) read.whole
          ∙ sym (append_assoc (line 42 h.number) (sent_words others.words) (drop others.end behind))
          ∙ ap (λ n. (line 42 n ++ sent_words others.words) ++ drop others.end behind) (sym read.count) in
          let len : h.end + others.end ≡ length (spelling others.words) =
          omega (arith, head.1, read.end, ap (λ n. length (line 42 n)) read.count, length-append (line 42 (length others.words)) (sent_words others.words)) in
          record {
            within = omega (arith, len, ap length all, length-append (spelling others.words) (drop others.end behind));
            spells = record {
              number = omega (arith, ends.0, read.count);
              sizes = read.sizes;
              spelled = inl (front-is bytes (spelling others.words) (drop others.end behind) (h.end + others.end) all len);
            };
          })
      | inr head ↦ (let none : others.words ≡ [] = nil_from_length others.words (read.count ∙ head.0) in
          let zero_end : others.end ≡ 0 = read.end ∙ ap (λ ws. length (sent_words ws)) none in
          let len : h.end + others.end ≡ 5 = omega (arith, zero_end, head.2) in
          record {
            within = omega (arith, len, ap length head.1, length-append null_spelling behind);
            spells = record {
              number = omega (arith, ends.0, read.count);
              sizes = read.sizes;
              spelled = inr (none, front-is bytes null_spelling behind (h.end + others.end) head.1 len);
            };
          })
    ]

pub request-read : (bytes : List ℕ) (found : Found) → request bytes ≡ Ok (Some found) → IsSpelled bytes found
unfolding request
request-read bytes found e =
    let first = bind-ok (header Count bytes) _ found e in
    let h = first.0 in
    let further = bind-ok (words h.number (drop h.end bytes)) _ found first.2 in
    let all : Found = record { words = (further.0).words; end = h.end + (further.0).end } in
    let is : all ≡ found = cc in
    subst (λ f. IsSpelled bytes f) is (spelled-words bytes h further.0 first.1 further.1)

-- a request that was sent is read
spelling-read : (texts : List (List ℕ)) (rest : List ℕ) → length texts ≤ limit Count → AreSizes texts → request (spelling texts ++ rest) ≡ Ok (Some (record { words = texts; end = length (spelling texts) }))
unfolding request words
spelling-read texts rest number sizes =
    let n = length texts in
    let head = line 42 n in
    let sent = sent_words texts in
    let all = head ++ (sent ++ rest) in
    ap request (append_assoc head sent rest)
    ∙ ap (λ o. o >>= λ (h : Header). behind_words [] h.end (words h.number (drop h.end all))) (header-line Count n (sent ++ rest) number (omega arith))
    ∙ ap (λ b. behind_words [] (length head) (words n b)) (drop_at head (sent ++ rest) (length head) refl)
    ∙ ap (λ k. behind_words [] (length head) (words k (sent ++ rest))) (omega arith)
    ∙ ap (behind_words [] (length head)) (words-sent texts 0 rest sizes)
    ∙ ap (λ ws. Ok (Some (record { words = ws; end = length head + (length sent + 0) }))) (append-nil texts)
    ∙ ap (λ k. Ok (Some (record { words = texts; end = k }))) (omega (arith, length-append head sent))

null-read : (rest : List ℕ) → request (null_spelling ++ rest) ≡ Ok (Some (record { words = []; end = 5 }))
unfolding request words number_in
null-read rest =
    let all = null_spelling ++ rest in
    let begins : BeginsLine Count all (45 ∷ 49 ∷ []) 10 = record { rest = rest; whole = refl; short = lit< tt; no_cr = (λ e. absurd (omega arith), (λ e. absurd (omega arith), tt)) } in
    ap (λ o. o >>= λ (h : Header). behind_words [] h.end (words h.number (drop h.end all))) (begins-header Count all (45 ∷ 49 ∷ []) 10 begins)

pub spelled-read : (bytes : List ℕ) (texts : List (List ℕ)) (rest : List ℕ) → Spells bytes texts → request (bytes ++ rest) ≡ Ok (Some (record { words = texts; end = length bytes }))
spelled-read bytes texts rest s =
    elim s.spelled [
      | inl is ↦ ap (λ b. request (b ++ rest)) is ∙ spelling-read texts rest s.number s.sizes ∙ ap (λ b. Ok (Some (record { words = texts; end = length b }))) (sym is)
      | inr is ↦ ap (λ b. request (b ++ rest)) is.1 ∙ null-read rest ∙ ap (λ ws. Ok (Some (record { words = ws; end = 5 }))) (sym is.0) ∙ ap (λ b. Ok (Some (record { words = texts; end = length b }))) (sym is.1)
    ]

pub request-spelled : (bytes : List ℕ) (found : Found) → IsSpelled bytes found → request bytes ≡ Ok (Some found)
request-spelled bytes found s =
    ap request (sym (take-append-drop found.end bytes))
    ∙ spelled-read (take found.end bytes) found.words (drop found.end bytes) s.spells
    ∙ ap (λ n. Ok (Some (record { words = found.words; end = n }))) (length-take-le found.end bytes s.within)

-- a fault that was found in a request is in it
pub request-fault : (bytes : List ℕ) (wrong : ProtocolFault) → request bytes ≡ Err wrong → FaultIn bytes wrong
unfolding request
request-fault bytes wrong e =
    elim (bind-err (header Count bytes) _ wrong e) [
      | inl here ↦ inl (header-fault Count bytes wrong here)
      | inr first ↦ (let h = first.0 in
          elim (bind-err (words h.number (drop h.end bytes)) _ wrong first.2) [
            | inl there ↦ (let f = words-fault h.number (drop h.end bytes) wrong there in
                elim (count-line bytes h first.1) [
                  | inl head ↦ inr (record {
                    number = h.number;
                    words = f.passed;
                    rest = f.rest;
                    whole = head.0 ∙ ap (λ b. line 42 h.number ++ b) f.whole;
                    within = (header_ends Count bytes h first.1).0;
                    some_left = f.some_left;
                    sizes = f.sizes;
                    fault = f.fault;
                  })
                  | inr head ↦ absurd (omega (arith, head.0, f.some_left))
                ])
            | inr never ↦ absurd (cc (never.2))
          ])
    ]

-- the converse
behind-fault : (bytes : List ℕ) (wrong : ProtocolFault) → FaultBehind bytes wrong → request bytes ≡ Err wrong
unfolding request words
behind-fault bytes wrong f =
    let head = line 42 f.number in
    let sent = sent_words f.words in
    let all = head ++ (sent ++ f.rest) in
    let left : f.number ≡ length f.words + suc (f.number - (length f.words + 1)) = omega (arith, f.some_left) in
    let k = f.number - (length f.words + 1) in
    ap request f.whole
    ∙ ap (λ o. o >>= λ (h : Header). behind_words [] h.end (words h.number (drop h.end all))) (header-line Count f.number (sent ++ f.rest) f.within (omega (arith, f.within)))
    ∙ ap (λ b. behind_words [] (length head) (words f.number b)) (drop_at head (sent ++ f.rest) (length head) refl)
    ∙ ap (λ n. behind_words [] (length head) (words n (sent ++ f.rest))) left
    ∙ ap (behind_words [] (length head)) (words-sent f.words (suc k) f.rest f.sizes)
    ∙ ap (λ o. behind_words [] (length head) (behind_words f.words (length sent) (o >>= λ (s : Span). behind_words (text_in f.rest s ∷ []) (s.end + 2) (words k (drop (s.end + 2) f.rest))))) (word-err f.rest wrong f.fault)

pub fault-request : (bytes : List ℕ) (wrong : ProtocolFault) → FaultIn bytes wrong → request bytes ≡ Err wrong
fault-request bytes wrong (inl f) = request-err bytes wrong (header-err Count bytes wrong f)
fault-request bytes wrong (inr f) = behind-fault bytes wrong f

-- no decision exactly if neither holds
pub request-open : (bytes : List ℕ) → request bytes ≡ Ok None → IsOpen bytes
request-open bytes e = (
  λ front rest texts is s. let read = sym e ∙ ap request is ∙ spelled-read front texts rest s in cc,
  λ wrong f. let read = sym e ∙ fault-request bytes wrong f in cc,
)

pub open-request : (bytes : List ℕ) → IsOpen bytes → request bytes ≡ Ok None
open-request bytes open' =
    elim (cases-outcome (request bytes)) [
      | inl none ↦ none
      | inr decided ↦ elim decided [
        | inl found ↦
            let end = (found.0).end in
            let is = sym (take-append-drop end bytes) in
            absurd (open'.0 (take end bytes) (drop end bytes) (found.0).words is (request-read bytes found.0 found.1).spells)
        | inr wrong ↦ absurd (open'.1 wrong.0 (request-fault bytes wrong.0 wrong.1))
      ]
    ]

-- what is decided on some bytes stays decided
pub request-keeps : (bytes more : List ℕ) → Keeps (request bytes) (request (bytes ++ more))
unfolding request
request-keeps bytes more =
    Keeps-bind _ _ _ _ (header-keeps Count bytes more) (λ h e.
    let ends = header_ends Count bytes h e in
    let first = behind_words [] h.end (words h.number (drop h.end bytes)) in
    subst (λ b. Keeps first (behind_words [] h.end (words h.number b))) (sym (drop-append-le h.end bytes more ends.1))
    (after-keeps [] h.end _ _ (words-keep h.number (drop h.end bytes) more)))

-- no spelling is a proper prefix of another
pub spelling-only : (bytes others rest more : List ℕ) (texts names : List (List ℕ)) → Spells bytes texts → Spells others names → bytes ++ rest ≡ others ++ more → (bytes ≡ others) × (texts ≡ names)
spelling-only bytes others rest more texts names s o e =
    let one : Found = record { words = texts; end = length bytes } in
    let other : Found = record { words = names; end = length others } in
    let same = sym (spelled-read bytes texts rest s) ∙ ap request e ∙ spelled-read others names more o in
    let is : one ≡ other = cc in
    let ends = ap (λ (f : Found). f.end) is in (
      sym (take_at bytes rest (length bytes) refl) ∙ ap (take (length bytes)) e ∙ ap (λ n. take n (others ++ more)) ends ∙ take_at others more (length others) refl,
      ap (λ (f : Found). f.words) is,
    )
