-- Headers, by the grammar and as they are read.
use Rattle.std.proofs.Common.{◌≡◌, ℕ, ◌+◌, ◌^◌, ◌<◌, ◌≤◌, zero, suc, cond, eqb, ltb, leb, List, [], ◌∷◌, ◌++◌, length}
use Rattle.std.proofs.Common.{take, drop, get_or, Option, Some, None, Ok, Err, inl, inr, ◌⊎◌, refl, sym, ap, ◌∙◌, subst}
use Rattle.std.proofs.Common.{arith, append_assoc, length-append, decimal}
use Rattle.std.proofs.lemmas.Bool.{cases_Bool, cond-true, cond-false, eqb-true, eqb-false, eq-eqb, ne_eqb, ltb-true}
use Rattle.std.proofs.lemmas.Bool.{ltb-false, lt-ltb, le-ltb, leb-true, leb-false, le-leb, not-true, not-false}
use Rattle.std.proofs.lemmas.Bool.{not_from_false}
use Rattle.std.proofs.lemmas.List.Sums.{prefix_len-le-length}
use Rattle.std.proofs.lemmas.List.{take_at, drop_at, take-append-drop, length-take-le, get_or-append-add}
use Rattle.xs_resp.specs.declared.header.Part.{Part}
use Rattle.xs_resp.specs.declared.header.Part.TheVariants.{Count, Size}
use Rattle.xs_resp.specs.declared.header.Header.{Header}
use Rattle.xs_resp.specs.declared.read_fault.ProtocolFault.{ProtocolFault}
use Rattle.xs_resp.specs.declared.read_fault.ProtocolFault.TheVariants.{Length, Shape, Limit}
use Rattle.xs_resp.specs.Line.{line, crlf}
use Rattle.xs_resp.specs.HeaderPart.{marker, limit, number_in}
use Rattle.xs_resp.specs.Header.{is_not_cr, text_len, within_limit, line_at, header}
use Rattle.xs_resp.specs.Grammar.{HasNoCr, BeginsLine, HeaderFault, null_spelling}
use Rattle.xs_resp.proofs.Reading.{chosen, line_at-ok}
use Rattle.xs_resp.proofs.DecisionStays.{line_at-whole}
use Rattle.xs_resp.proofs.Numbers.{number-size, number-count, number-decimal, decimal-no-cr, decimal-short}

-- a line is the text before its first CR, the CR, and the rest
record CrAt (bytes : List ℕ) (at : ℕ) : Type 0 where
  text : List ℕ
  rest : List ℕ
  whole : bytes ≡ text ++ (13 ∷ rest)
  len : length text ≡ at
  no_cr : HasNoCr text

cr-at : (bytes : List ℕ) → text_len bytes < length bytes → CrAt bytes (text_len bytes)
cr-at [] h = absurd (omega arith)
cr-at (byte ∷ bytes) h =
    elim (cases_Bool (is_not_cr byte)) [
      | inl passes ↦ (let step = cond-true (is_not_cr byte) (1 + text_len bytes) 0 passes in
          let further = cr-at bytes (omega (arith, step)) in
          record {
            text = byte ∷ further.text;
            rest = further.rest;
            whole = ap (λ l. byte ∷ l) further.whole;
            len = omega (arith, step, further.len);
            no_cr = (eqb-false byte 13 (not-true (eqb byte 13) passes), further.no_cr);
          })
      | inr stops ↦ (let step = cond-false (is_not_cr byte) (1 + text_len bytes) 0 stops in
          record {
            text = [];
            rest = bytes;
            whole = ap (λ b. b ∷ bytes) (eqb-true byte 13 (not-false (eqb byte 13) stops));
            len = sym step;
            no_cr = tt;
          })
    ]

-- the number of bytes before the first CR, from the text
text_len-text : (text rest : List ℕ) → HasNoCr text → text_len (text ++ (13 ∷ rest)) ≡ length text
text_len-text [] rest h = refl
text_len-text (byte ∷ text) rest h =
    omega (arith, cond-true (is_not_cr byte) (1 + text_len (text ++ (13 ∷ rest))) 0 (not_from_false (eqb byte 13) (ne_eqb byte 13 h.0)), text_len-text text rest h.1)

text_len-ge : (text rest : List ℕ) → HasNoCr text → length text ≤ text_len (text ++ rest)
text_len-ge [] rest h = omega arith
text_len-ge (byte ∷ text) rest h =
    omega (arith, cond-true (is_not_cr byte) (1 + text_len (text ++ rest)) 0 (not_from_false (eqb byte 13) (ne_eqb byte 13 h.0)), text_len-ge text rest h.1)

-- before the first CR there is none
no-cr-front : (n : ℕ) (bytes : List ℕ) → n ≤ text_len bytes → HasNoCr (take n bytes)
no-cr-front zero bytes h = tt
no-cr-front (suc n) [] h = absurd (omega arith)
no-cr-front (suc n) (byte ∷ bytes) h =
    elim (cases_Bool (is_not_cr byte)) [
      | inl passes ↦ (let step = cond-true (is_not_cr byte) (1 + text_len bytes) 0 passes in
          (eqb-false byte 13 (not-true (eqb byte 13) passes), no-cr-front n bytes (omega (arith, step))))
      | inr stops ↦ (let step = cond-false (is_not_cr byte) (1 + text_len bytes) 0 stops in absurd (omega (arith, step)))
    ]

-- the first byte
first-is : (bytes : List ℕ) → 0 < length bytes → bytes ≡ get_or bytes 0 0 ∷ drop 1 bytes
first-is [] h = absurd (omega arith)
first-is (byte ∷ bytes) h = refl

-- a line that is complete
line-begins : (part : Part) (bytes : List ℕ) → text_len bytes < 30 → text_len bytes + 2 ≤ length bytes → BeginsLine part (marker part ∷ bytes) (take (text_len bytes) bytes) (get_or bytes (text_len bytes + 1) 0)
line-begins part bytes short whole =
    let cr = text_len bytes in
    let parts = cr-at bytes (omega arith) in
    let text : take cr bytes ≡ parts.text = ap (take cr) parts.whole ∙ take_at parts.text (13 ∷ parts.rest) cr parts.len in
    let some : 0 < length parts.rest = omega (arith, ap length parts.whole, length-append parts.text (13 ∷ parts.rest), parts.len) in
    let behind : get_or bytes (cr + 1) 0 ≡ get_or parts.rest 0 0 =
    ap (λ n. get_or bytes (n + 1) 0) (sym parts.len) ∙ ap (λ b. get_or b (length parts.text + 1) 0) parts.whole ∙ get_or-append-add parts.text (13 ∷ parts.rest) 1 0 in
    let tail : parts.rest ≡ get_or bytes (cr + 1) 0 ∷ drop 1 parts.rest = first-is parts.rest some ∙ ap (λ b. b ∷ drop 1 parts.rest) (sym behind) in
    record {
      rest = drop 1 parts.rest;
      whole = ap (λ l. marker part ∷ l) (parts.whole ∙ ap (λ t. t ++ (13 ∷ parts.rest)) (sym text) ∙ ap (λ r. take cr bytes ++ (13 ∷ r)) tail);
      short = omega (arith, ap length text, parts.len);
      no_cr = subst (λ t. HasNoCr t) (sym text) parts.no_cr;
    }

-- a header whose line is complete, as it is read
pub begins-header : (part : Part) (bytes text : List ℕ) (byte : ℕ) → BeginsLine part bytes text byte → header part bytes ≡ cond (eqb byte 10) (within_limit part (length text + 3) (number_in part text)) (Err Shape)
unfolding header
begins-header part bytes text byte begins =
    let behind = text ++ (13 ∷ byte ∷ begins.rest) in
    let len = length text in
    ap (header part) begins.whole
    ∙ cond-true (eqb (marker part) (marker part)) _ _ (eq-eqb (marker part) (marker part) refl)
    ∙ ap (line_at part behind) (text_len-text text (byte ∷ begins.rest) begins.no_cr)
    ∙ line_at-whole part behind len begins.short (omega (arith, length-append text (13 ∷ byte ∷ begins.rest)))
    ∙ ap (λ b. cond (eqb b 10) (within_limit part (len + 3) (number_in part (take len behind))) (Err Shape)) (get_or-append-add text (13 ∷ byte ∷ begins.rest) 1 0)
    ∙ ap (λ t. cond (eqb byte 10) (within_limit part (len + 3) (number_in part t)) (Err Shape)) (take_at text (13 ∷ byte ∷ begins.rest) len refl)

-- a header that was read
pub record HeaderRead (part : Part) (bytes : List ℕ) (h : Header) : Type 0 where
  pub text : List ℕ
  pub begins : BeginsLine part bytes text 10
  pub number : number_in part text ≡ Some h.number
  pub within : h.number ≤ limit part
  pub end : h.end ≡ length text + 3

pub header-read : (part : Part) (bytes : List ℕ) (h : Header) → header part bytes ≡ Ok (Some h) → HeaderRead part bytes h
unfolding header
header-read part [] h e = absurd (cc)
header-read part (byte ∷ bytes) h e =
    elim (chosen (eqb byte (marker part)) _ _ _ e) [
      | inl w ↦ (let found = line_at-ok part bytes (text_len bytes) h w.1 in
          let is : byte ≡ marker part = eqb-true byte (marker part) w.0 in
          let begins = line-begins part bytes found.short found.whole in
          record {
            text = take (text_len bytes) bytes;
            begins = subst (λ b. BeginsLine part (b ∷ bytes) (take (text_len bytes) bytes) 10) (sym is) (subst (λ b. BeginsLine part (marker part ∷ bytes) (take (text_len bytes) bytes) b) found.lf begins);
            number = found.number;
            within = found.within;
            end = omega (arith, found.end, length-take-le (text_len bytes) bytes (omega (arith, found.whole)));
          })
      | inr w ↦ absurd (cc)
    ]

-- a number that isn't within its limit
limited-err : (part : Part) (end : ℕ) (number : Option ℕ) (wrong : ProtocolFault) → within_limit part end number ≡ Err wrong → ((number ≡ None) × (Length ≡ wrong)) ⊎ ((n : ℕ) × (number ≡ Some n) × (limit part < n) × (Limit ≡ wrong))
limited-err part end None wrong e = inl (refl, cc)
limited-err part end (Some n) wrong e =
    elim (chosen (ltb (limit part) n) _ _ _ e) [
      | inl w ↦ inr (n, refl, ltb-true (limit part) n w.0, cc)
      | inr w ↦ absurd (cc)
    ]

-- a fault that was found in a line is in it
line-fault : (part : Part) (bytes : List ℕ) (wrong : ProtocolFault) → line_at part bytes (text_len bytes) ≡ Err wrong → HeaderFault part (marker part ∷ bytes) wrong
unfolding line_at
line-fault part bytes wrong e =
    let cr = text_len bytes in
    let all = marker part ∷ bytes in
    elim (chosen (leb 30 cr) _ _ _ e) [
      | inl a ↦ (let long : 30 ≤ cr = leb-true 30 cr a.0 in
          let is : Limit ≡ wrong = cc in
          subst (HeaderFault part all) is (inl (record {
            text = take 30 bytes;
            rest = drop 30 bytes;
            whole = ap (λ l. marker part ∷ l) (sym (take-append-drop 30 bytes));
            long = length-take-le 30 bytes (omega (arith, prefix_len-le-length is_not_cr bytes));
            no_cr = no-cr-front 30 bytes long;
          })))
      | inr a ↦ elim (chosen (ltb (length bytes) (cr + 2)) _ _ _ a.1) [
        | inl b ↦ absurd (cc)
        | inr b ↦ (let begins = line-begins part bytes (leb-false 30 cr a.0) (ltb-false (length bytes) (cr + 2) b.0) in
            elim (chosen (eqb (get_or bytes (cr + 1) 0) 10) _ _ _ b.1) [
              | inl d ↦ (let lf : get_or bytes (cr + 1) 0 ≡ 10 = eqb-true (get_or bytes (cr + 1) 0) 10 d.0 in
                  let line_end = subst (λ x. BeginsLine part all (take cr bytes) x) lf begins in
                  elim (limited-err part (cr + 3) (number_in part (take cr bytes)) wrong d.1) [
                    | inl f ↦ subst (HeaderFault part all) f.1 (record { text = take cr bytes; begins = line_end; none = f.0 })
                    | inr f ↦ subst (HeaderFault part all) f.3 (inr (record { text = take cr bytes; number = f.0; begins = line_end; is = f.1; great = f.2 }))
                  ])
              | inr d ↦ (let is : Shape ≡ wrong = cc in
                  subst (HeaderFault part all) is (inr (record { text = take cr bytes; byte = get_or bytes (cr + 1) 0; begins = begins; other = eqb-false (get_or bytes (cr + 1) 0) 10 d.0 })))
            ])
      ]
    ]

pub header-fault : (part : Part) (bytes : List ℕ) (wrong : ProtocolFault) → header part bytes ≡ Err wrong → HeaderFault part bytes wrong
unfolding header
header-fault part [] wrong e = absurd (cc)
header-fault part (byte ∷ bytes) wrong e =
    elim (chosen (eqb byte (marker part)) _ _ _ e) [
      | inl w ↦ (let is : byte ≡ marker part = eqb-true byte (marker part) w.0 in
          subst (λ b. HeaderFault part (b ∷ bytes) wrong) (sym is) (line-fault part bytes wrong w.1))
      | inr w ↦ (let is : Shape ≡ wrong = cc in
          subst (HeaderFault part (byte ∷ bytes)) is (inl (record { byte = byte; rest = bytes; whole = refl; other = eqb-false byte (marker part) w.0 })))
    ]

-- the converse
pub header-err : (part : Part) (bytes : List ℕ) (wrong : ProtocolFault) → HeaderFault part bytes wrong → header part bytes ≡ Err wrong
unfolding header line_at
header-err part bytes Length f = begins-header part bytes f.text 10 f.begins ∙ ap (within_limit part (length f.text + 3)) f.none
header-err part bytes Shape (inl f) = ap (header part) f.whole ∙ cond-false (eqb f.byte (marker part)) _ _ (ne_eqb f.byte (marker part) f.other)
header-err part bytes Shape (inr f) = begins-header part bytes f.text f.byte f.begins ∙ cond-false (eqb f.byte 10) _ _ (ne_eqb f.byte 10 f.other)
header-err part bytes Limit (inl f) =
    let long : 30 ≤ text_len (f.text ++ f.rest) = omega (arith, text_len-ge f.text f.rest f.no_cr, f.long) in
    ap (header part) f.whole
    ∙ cond-true (eqb (marker part) (marker part)) _ _ (eq-eqb (marker part) (marker part) refl)
    ∙ cond-true (leb 30 (text_len (f.text ++ f.rest))) _ _ (le-leb 30 (text_len (f.text ++ f.rest)) long)
header-err part bytes Limit (inr f) =
    begins-header part bytes f.text 10 f.begins ∙ ap (within_limit part (length f.text + 3)) f.is ∙ cond-true (ltb (limit part) f.number) _ _ (lt-ltb (limit part) f.number f.great)

-- a line of a number within its limit
pub header-line : (part : Part) (n : ℕ) (rest : List ℕ) → n ≤ limit part → n < 2 ^ 32 → header part (line (marker part) n ++ rest) ≡ Ok (Some (record { number = n; end = length (line (marker part) n) }))
header-line part n rest h small =
    let begins : BeginsLine part (line (marker part) n ++ rest) (decimal n) 10 = record {
      rest = rest;
      whole = ap (λ l. marker part ∷ l) (append_assoc (decimal n) crlf rest);
      short = decimal-short n small;
      no_cr = decimal-no-cr n (omega arith);
    } in
    begins-header part _ (decimal n) 10 begins
    ∙ ap (within_limit part (length (decimal n) + 3)) (number-decimal part n h)
    ∙ cond-false (ltb (limit part) n) _ _ (le-ltb (limit part) n h)
    ∙ ap (λ end. Ok (Some (record { number = n; end = end }))) (omega (arith, length-append (decimal n) crlf))

-- the text of a complete line, cut at its end
line-cut : (part : Part) (bytes text : List ℕ) → (begins : BeginsLine part bytes text 10) → drop (length text + 3) bytes ≡ begins.rest
line-cut part bytes text begins =
    let whole : bytes ≡ ((marker part ∷ text) ++ crlf) ++ begins.rest = begins.whole ∙ ap (λ l. marker part ∷ l) (sym (append_assoc text crlf begins.rest)) in
    ap (drop (length text + 3)) whole ∙ drop_at ((marker part ∷ text) ++ crlf) begins.rest (length text + 3) (omega (arith, length-append text crlf))

-- a header that was read is the line of its number
line-from : (part : Part) (bytes text : List ℕ) (n : ℕ) → (begins : BeginsLine part bytes text 10) → text ≡ decimal n → bytes ≡ line (marker part) n ++ drop (length text + 3) bytes
line-from part bytes text n begins is =
    begins.whole
    ∙ ap (λ l. marker part ∷ l) (sym (append_assoc text crlf begins.rest))
    ∙ ap (λ t. (marker part ∷ (t ++ crlf)) ++ begins.rest) is
    ∙ ap (λ r. line (marker part) n ++ r) (sym (line-cut part bytes text begins))

pub size-line : (bytes : List ℕ) (h : Header) → header Size bytes ≡ Ok (Some h) → (bytes ≡ line 36 h.number ++ drop h.end bytes) × (h.end ≡ length (line 36 h.number))
size-line bytes h e =
    let read = header-read Size bytes h e in
    let is = number-size read.text h.number read.number (omega (arith, read.within)) in (
      line-from Size bytes read.text h.number read.begins is ∙ ap (λ n. line 36 h.number ++ drop n bytes) (sym read.end),
      omega (arith, read.end, ap length is, length-append (decimal h.number) crlf),
    )

pub count-line : (bytes : List ℕ) (h : Header) → header Count bytes ≡ Ok (Some h) → ((bytes ≡ line 42 h.number ++ drop h.end bytes) × (h.end ≡ length (line 42 h.number))) ⊎ ((h.number ≡ 0) × (bytes ≡ null_spelling ++ drop h.end bytes) × (h.end ≡ 5))
count-line bytes h e =
    let read = header-read Count bytes h e in
    elim (number-count read.text h.number read.number (omega (arith, read.within))) [
      | inl is ↦ inl (
        line-from Count bytes read.text h.number read.begins is ∙ ap (λ n. line 42 h.number ++ drop n bytes) (sym read.end),
        omega (arith, read.end, ap length is, length-append (decimal h.number) crlf),
      )
      | inr is ↦ inr (
        is.0,
        read.begins.whole ∙ ap (λ t. 42 ∷ (t ++ (13 ∷ 10 ∷ read.begins.rest))) is.1 ∙ ap (λ r. null_spelling ++ r) (sym (line-cut Count bytes read.text read.begins) ∙ ap (λ n. drop n bytes) (sym read.end)),
        omega (arith, read.end, ap length is.1),
      )
    ]
