-- Words, by the grammar and as they are read.
use Rattle.std.proofs.Common.{◌≡◌, ℕ, ◌+◌, ◌-◌, ◌<◌, ◌≤◌, eqb, List, [], ◌∷◌, ◌++◌, length, take, drop, Some, Ok, Err}
use Rattle.std.proofs.Common.{inl, inr, refl, sym, ap, ◌∙◌, subst, arith, append_assoc, length-append, length-drop}
use Rattle.std.proofs.lemmas.Bool.{cond-true, cond-false, eqb-false, ne_eqb, cases_eq, eq-eqb}
use Rattle.std.proofs.lemmas.List.{take_at, drop_at, take-append-drop, length-take-le, drop-drop}
use Rattle.xs_resp.specs.declared.header.Part.TheVariants.{Size}
use Rattle.xs_resp.specs.declared.header.Header.{Header}
use Rattle.xs_resp.specs.declared.word.Span.{Span}
use Rattle.xs_resp.specs.declared.read_fault.ProtocolFault.{ProtocolFault}
use Rattle.xs_resp.specs.declared.read_fault.ProtocolFault.TheVariants.{Shape}
use Rattle.xs_resp.specs.Line.{line, crlf}
use Rattle.xs_resp.specs.HeaderPart.{limit}
use Rattle.xs_resp.specs.Outcome.{◌>>=◌}
use Rattle.xs_resp.specs.Header.{header}
use Rattle.xs_resp.specs.Reading.{span_before_crlf, bulk_string, text_in}
use Rattle.xs_resp.specs.Grammar.{sent_word, LacksCrlf, WordFault}
use Rattle.xs_resp.proofs.Outcomes.{bind-err}
use Rattle.xs_resp.proofs.Reading.{chosen, header_ends, word-ok}
use Rattle.xs_resp.proofs.Headers.{header-fault, header-err, header-line, size-line}

-- a word as it is sent, and what follows
pub sent-split : (text rest : List ℕ) → sent_word text ++ rest ≡ line 36 (length text) ++ (text ++ (13 ∷ 10 ∷ rest))
sent-split text rest = append_assoc (line 36 (length text)) (text ++ crlf) rest ∙ ap (λ b. line 36 (length text) ++ b) (append_assoc text crlf rest)

-- a word that was read
pub record WordRead (bytes : List ℕ) (span : Span) : Type 0 where
  pub whole : bytes ≡ sent_word (text_in bytes span) ++ drop (span.end + 2) bytes
  pub size : length (text_in bytes span) ≤ limit Size
  pub end : span.end + 2 ≡ length (sent_word (text_in bytes span))

pub word-read : (bytes : List ℕ) (span : Span) → bulk_string bytes ≡ Ok (Some span) → WordRead bytes span
word-read bytes span e =
    let read = word-ok bytes span e in
    let n = read.head.number in
    let behind = drop read.head.end bytes in
    let text = text_in bytes span in
    let head = size-line bytes read.head read.header_is in
    let within : n ≤ length behind = omega (arith, length-drop read.head.end bytes, read.end_is, read.whole) in
    let text_is : text ≡ take n behind =
    ap (λ at. take (span.end - span.start) (drop at bytes)) read.start_is ∙ ap (λ k. take k behind) (omega (arith, read.start_is, read.end_is)) in
    let len : length text ≡ n = ap length text_is ∙ length-take-le n behind within in
    let rest_is : drop n behind ≡ 13 ∷ 10 ∷ read.tail = drop-drop n read.head.end bytes ∙ ap (λ k. drop k bytes) (sym read.end_is) ∙ read.line_end in
    let tail_is : drop (span.end + 2) bytes ≡ read.tail = sym (drop-drop 2 span.end bytes) ∙ ap (drop 2) read.line_end in
    record {
      whole =
          head.0
          ∙ ap (λ b. line 36 n ++ b) (sym (take-append-drop n behind))
          ∙ ap (λ b. line 36 n ++ (take n behind ++ b)) rest_is
          ∙ ap (λ t. line 36 n ++ (t ++ (13 ∷ 10 ∷ read.tail))) (sym text_is)
          ∙ ap (λ k. line 36 k ++ (text ++ (13 ∷ 10 ∷ read.tail))) (sym len)
          ∙ sym (sent-split text read.tail)
          ∙ ap (λ b. sent_word text ++ b) (sym tail_is);
      size = omega (arith, len, read.small);
      end = omega (arith, read.end_is, head.1, ap (λ k. length (line 36 k)) len, len, length-append (line 36 (length text)) (text ++ crlf), length-append text crlf);
    }

-- a line end that is missing
closed-fault : (start end : ℕ) (rest : List ℕ) (wrong : ProtocolFault) → span_before_crlf start end rest ≡ Err wrong → (Shape ≡ wrong) × LacksCrlf rest
closed-fault start end [] wrong e = absurd (cc)
closed-fault start end (cr ∷ []) wrong e =
    elim (chosen (eqb cr 13) _ _ _ e) [ inl w ↦ absurd (cc) | inr w ↦ (cc, eqb-false cr 13 w.0) ]
closed-fault start end (cr ∷ lf ∷ rest) wrong e =
    elim (chosen (eqb cr 13) _ _ _ e) [
      | inl w ↦ elim (chosen (eqb lf 10) _ _ _ w.1) [ inl v ↦ absurd (cc) | inr v ↦ (cc, inr (eqb-false lf 10 v.0)) ]
      | inr w ↦ (cc, inl (eqb-false cr 13 w.0))
    ]

closed-err : (start end : ℕ) (rest : List ℕ) → LacksCrlf rest → span_before_crlf start end rest ≡ Err Shape
closed-err start end [] missing = absurd missing
closed-err start end (cr ∷ []) missing = cond-false (eqb cr 13) _ _ (ne_eqb cr 13 missing)
closed-err start end (cr ∷ lf ∷ rest) (inl missing) = cond-false (eqb cr 13) _ _ (ne_eqb cr 13 missing)
closed-err start end (cr ∷ lf ∷ rest) (inr missing) =
    elim (cases_eq cr 13) [
      | inl is ↦ cond-true (eqb cr 13) _ _ (eq-eqb cr 13 is) ∙ cond-false (eqb lf 10) _ _ (ne_eqb lf 10 missing)
      | inr other ↦ cond-false (eqb cr 13) _ _ (ne_eqb cr 13 other)
    ]

some-missing : (rest : List ℕ) → LacksCrlf rest → 0 < length rest
some-missing [] missing = absurd missing
some-missing (byte ∷ rest) missing = omega arith

-- a fault that was found in a word is in it
pub word-fault : (bytes : List ℕ) (wrong : ProtocolFault) → bulk_string bytes ≡ Err wrong → WordFault bytes wrong
unfolding bulk_string
word-fault bytes wrong e =
    elim (bind-err (header Size bytes) _ wrong e) [
      | inl f ↦ inl (header-fault Size bytes wrong f)
      | inr read ↦ (let n = (read.0).number in
          let end = (read.0).end in
          let behind = drop end bytes in
          let missing = closed-fault end (end + n) (drop (end + n) bytes) wrong read.2 in
          let head = size-line bytes read.0 read.1 in
          let some = some-missing (drop (end + n) bytes) missing.1 in
          let within : n ≤ length behind = omega (arith, length-drop end bytes, length-drop (end + n) bytes) in
          let len : length (take n behind) ≡ n = length-take-le n behind within in
          let ends = header_ends Size bytes read.0 read.1 in
          inr (
            sym missing.0,
            record {
              text = take n behind;
              rest = drop n behind;
              whole = head.0 ∙ ap (λ b. line 36 n ++ b) (sym (take-append-drop n behind)) ∙ ap (λ k. line 36 k ++ (take n behind ++ drop n behind)) (sym len);
              size = omega (arith, len, ends.0);
              missing = subst (λ b. LacksCrlf b) (sym (drop-drop n end bytes)) missing.1;
            },
          ))
    ]

-- a line of a size, and what follows that many bytes
behind-line : (text rest : List ℕ) → length text ≤ limit Size → bulk_string (line 36 (length text) ++ (text ++ rest)) ≡ span_before_crlf (length (line 36 (length text))) (length (line 36 (length text)) + length text) rest
unfolding bulk_string
behind-line text rest h =
    let n = length text in
    let head = line 36 n in
    let end = length head in
    ap (λ o. o >>= λ (k : Header). span_before_crlf k.end (k.end + k.number) (drop (k.end + k.number) (head ++ (text ++ rest)))) (header-line Size n (text ++ rest) h (omega arith))
    ∙ ap (span_before_crlf end (end + n)) (ap (drop (end + n)) (sym (append_assoc head text rest)) ∙ drop_at (head ++ text) rest (end + n) (length-append head text))

-- the converse
pub word-err : (bytes : List ℕ) (wrong : ProtocolFault) → WordFault bytes wrong → bulk_string bytes ≡ Err wrong
unfolding bulk_string
word-err bytes wrong (inl f) = ap (λ o. o >>= λ (h : Header). span_before_crlf h.end (h.end + h.number) (drop (h.end + h.number) bytes)) (header-err Size bytes wrong f)
word-err bytes wrong (inr f) =
    ap bulk_string (f.1).whole ∙ behind-line (f.1).text (f.1).rest (f.1).size ∙ closed-err _ _ (f.1).rest (f.1).missing ∙ ap (λ w. Err w) (sym f.0)

-- a word that was sent is read
pub sent-span : List ℕ → Span
sent-span text = record { start = length (line 36 (length text)); end = length (line 36 (length text)) + length text }

pub word-sent : (text rest : List ℕ) → length text ≤ limit Size → bulk_string (sent_word text ++ rest) ≡ Ok (Some (sent-span text))
unfolding sent-span
word-sent text rest h = ap bulk_string (sent-split text rest) ∙ behind-line text (13 ∷ 10 ∷ rest) h

pub text-sent : (text rest : List ℕ) → text_in (sent_word text ++ rest) (sent-span text) ≡ text
unfolding sent-span
text-sent text rest =
    let end = length (line 36 (length text)) in
    ap (λ b. take ((end + length text) - end) (drop end b)) (sent-split text rest)
    ∙ ap (take ((end + length text) - end)) (drop_at (line 36 (length text)) (text ++ (13 ∷ 10 ∷ rest)) end refl)
    ∙ take_at text (13 ∷ 10 ∷ rest) ((end + length text) - end) (omega arith)

pub end-sent : (text : List ℕ) → (sent-span text).end + 2 ≡ length (sent_word text)
unfolding sent-span
end-sent text = omega (arith, length-append (line 36 (length text)) (text ++ crlf), length-append text crlf)
