-- Facts about how headers and words are read.
use Rattle.std.proofs.Common.{◌≡◌, ℕ, ◌+◌, ◌<◌, ◌≤◌, Bool, true, false, cond, eqb, ltb, leb, List, [], ◌∷◌, length}
use Rattle.std.proofs.Common.{take, drop, get_or, inl, inr, ◌⊎◌, Option, Some, None, Ok, refl, ap, ◌∙◌, arith}
use Rattle.std.proofs.Common.{length-drop}
use Rattle.std.proofs.lemmas.Bool.{ltb-false, leb-false, eqb-true}
use Rattle.xs_resp.specs.declared.header.Part.{Part}
use Rattle.xs_resp.specs.declared.header.Part.TheVariants.{Size}
use Rattle.xs_resp.specs.declared.header.Header.{Header}
use Rattle.xs_resp.specs.HeaderPart.{marker, limit, number_in}
use Rattle.xs_resp.specs.Header.{text_len, within_limit, line_at, header}
use Rattle.xs_resp.specs.declared.word.Span.{Span}
use Rattle.xs_resp.specs.Reading.{span_before_crlf, bulk_string}
use Rattle.xs_resp.proofs.Outcomes.{bind-ok}

-- the branch of a test that gave this outcome
pub chosen : {A : Type 0} (b : Bool) (x y z : A) → cond b x y ≡ z → ((b ≡ true) × (x ≡ z)) ⊎ ((b ≡ false) × (y ≡ z))
chosen true x y z e = inl (refl, e)
chosen false x y z e = inr (refl, e)

-- a header that was read has a number within the limit, and this end
pub limited-ok : (part : Part) (end : ℕ) (number : Option ℕ) (h : Header) → within_limit part end number ≡ Ok (Some h) → (number ≡ Some h.number) × (h.number ≤ limit part) × (h.end ≡ end)
limited-ok part end None h e = absurd (cc)
limited-ok part end (Some n) h e =
    elim (chosen (ltb (limit part) n) _ _ _ e) as (λ _. (Some n ≡ Some h.number) × (h.number ≤ limit part) × (h.end ≡ end)) [
      | inl w ↦ absurd (cc)
      | inr w ↦ (let same : n ≡ h.number = cc in (cc, omega (arith, ltb-false (limit part) n w.0), cc))
    ]

-- it ends after its line, whose text is shorter than 30 bytes
pub record IsLine (part : Part) (line : List ℕ) (cr : ℕ) (h : Header) : Type 0 where
  pub short : cr < 30
  pub whole : cr + 2 ≤ length line
  pub lf : get_or line (cr + 1) 0 ≡ 10
  pub number : number_in part (take cr line) ≡ Some h.number
  pub within : h.number ≤ limit part
  pub end : h.end ≡ cr + 3

pub line_at-ok : (part : Part) (line : List ℕ) (cr : ℕ) (h : Header) → line_at part line cr ≡ Ok (Some h) → IsLine part line cr h
unfolding line_at
line_at-ok part line cr h e =
    elim (chosen (leb 30 cr) _ _ _ e) [
      | inl w ↦ absurd (cc)
      | inr a ↦ elim (chosen (ltb (length line) (cr + 2)) _ _ _ a.1) [
        | inl w ↦ absurd (cc)
        | inr b ↦ elim (chosen (eqb (get_or line (cr + 1) 0) 10) _ _ _ b.1) [
          | inl d ↦ (let l = limited-ok part (cr + 3) _ h d.1 in record {
            short = leb-false 30 cr a.0;
            whole = ltb-false (length line) (cr + 2) b.0;
            lf = eqb-true (get_or line (cr + 1) 0) 10 d.0;
            number = l.0;
            within = l.1;
            end = l.2;
          })
          | inr w ↦ absurd (cc)
        ]
      ]
    ]

-- a header's number is within the limit, and the header within the bytes and its length
pub header_ends : (part : Part) (bytes : List ℕ) (h : Header) → header part bytes ≡ Ok (Some h) → (h.number ≤ limit part) × (h.end ≤ length bytes) × (h.end ≤ 32)
unfolding header
header_ends part [] h e = absurd (cc)
header_ends part (byte ∷ line) h e =
    elim (chosen (eqb byte (marker part)) _ _ _ e) [
      | inl w ↦ (let l = line_at-ok part line (text_len line) h w.1 in (l.within, omega (arith, l.whole, l.end), omega (arith, l.short, l.end)))
      | inr w ↦ absurd (cc)
    ]

-- a line end that was read is there
pub record IsClosed (start end : ℕ) (rest : List ℕ) (span : Span) : Type 0 where
  pub start_is : span.start ≡ start
  pub end_is : span.end ≡ end
  pub tail : List ℕ
  pub whole : rest ≡ 13 ∷ 10 ∷ tail

pub closed-ok : (start end : ℕ) (rest : List ℕ) (span : Span) → span_before_crlf start end rest ≡ Ok (Some span) → IsClosed start end rest span
closed-ok start end [] span e = absurd (cc)
closed-ok start end (cr ∷ []) span e =
    elim (chosen (eqb cr 13) _ _ _ e) [ inl w ↦ absurd (cc) | inr w ↦ absurd (cc) ]
closed-ok start end (cr ∷ lf ∷ tail) span e =
    elim (chosen (eqb cr 13) _ _ _ e) [
      | inl w ↦ elim (chosen (eqb lf 10) _ _ _ w.1) [
        | inl v ↦ (let is_cr : cr ≡ 13 = eqb-true cr 13 w.0 in
            let is_lf : lf ≡ 10 = eqb-true lf 10 v.0 in
            record { start_is = cc; end_is = cc; tail = tail; whole = cc })
        | inr v ↦ absurd (cc)
      ]
      | inr w ↦ absurd (cc)
    ]

-- a word that was read, with its header
pub record IsRead (bytes : List ℕ) (span : Span) : Type 0 where
  pub head : Header
  pub header_is : header Size bytes ≡ Ok (Some head)
  pub start_is : span.start ≡ head.end
  pub end_is : span.end ≡ head.end + head.number
  pub tail : List ℕ
  pub line_end : drop span.end bytes ≡ 13 ∷ 10 ∷ tail
  pub small : head.number ≤ 536870912
  pub short : head.end ≤ 32
  pub whole : span.end + 2 ≤ length bytes

pub word-ok : (bytes : List ℕ) (span : Span) → bulk_string bytes ≡ Ok (Some span) → IsRead bytes span
unfolding bulk_string
word-ok bytes span e =
    let read = bind-ok (header Size bytes) _ span e in
    let head = read.0 in
    let line_end = closed-ok head.end (head.end + head.number) (drop (head.end + head.number) bytes) span read.2 in
    let ends = header_ends Size bytes head read.1 in
    let behind : drop span.end bytes ≡ 13 ∷ 10 ∷ line_end.tail = ap (λ n. drop n bytes) line_end.end_is ∙ line_end.whole in
    record {
      head = head;
      header_is = read.1;
      start_is = line_end.start_is;
      end_is = line_end.end_is;
      tail = line_end.tail;
      line_end = behind;
      small = ends.0;
      short = ends.2;
      whole = omega (arith, ap length behind, length-drop span.end bytes);
    }
