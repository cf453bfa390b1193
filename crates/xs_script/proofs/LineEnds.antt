-- Where a line ends.
use Rattle.std.proofs.Common.{◌≡◌, ℕ, ◌+◌, ◌<◌, ◌≤◌, suc, Bool, true, false, ◌||◌, cond, eqb, leb, Option, Some, None}
use Rattle.std.proofs.Common.{MatchOption, List, [], ◌∷◌, ◌++◌, length, take, drop, get_or, sym, ap, ◌∙◌, refl, arith}
use Rattle.std.specs.List.{list_any}
use Rattle.std.proofs.lemmas.List.{take-append-drop, drop_more, length-take-le, get_or-take}
use borrow.Author.Tests.{eqb-true}
use Rattle.std.proofs.lemmas.Bool.{false≢true}
use Rattle.memchr.specs.Find.{IsFirstByte, is_byte}
use Rattle.xs_script.specs.Line.{onto_first, parts_of, has_bytes, full_parts, line_limit, moment_of, request_of}
use Rattle.xs_script.specs.Line.{line_of}
use Rattle.std.proofs.lemmas.Bool.Decides.{nat_tests}

pub none_at : (byte : ℕ) (bs : List ℕ) → ((k : ℕ) → k < length bs → eqb (get_or bs k 0) byte ≡ true → ⊥) → list_any (λ b. eqb b byte) bs ≡ false
none_at byte [] h = refl
none_at byte (b ∷ bs) h = by (none_at byte bs (λ k low e. h (suc k) (omega arith) e)) (eqb b byte) refl where
  by : list_any (λ x. eqb x byte) bs ≡ false → (t : Bool) → eqb b byte ≡ t → (t || list_any (λ x. eqb x byte) bs) ≡ false
  by rest true e = absurd (h 0 (omega arith) e)
  by rest false e = rest

pub none_before : (byte : ℕ) (bs : List ℕ) (at : ℕ) → at ≤ length bs → ((k : ℕ) → k < at → eqb (get_or bs k 0) byte ≡ true → ⊥) → list_any (λ b. eqb b byte) (take at bs) ≡ false
none_before byte bs at fits h = none_at byte (take at bs) (λ k low e.
    let len = length-take-le at bs fits in
    let below : k < at = omega arith in
    h k below (ap (λ b. eqb b byte) (sym (get_or-take at bs k 0 below)) ∙ e))

pub split_at : (byte : ℕ) (bs : List ℕ) (at : ℕ) → at < length bs → eqb (get_or bs at 0) byte ≡ true → bs ≡ take at bs ++ byte ∷ drop (at + 1) bs
split_at byte bs at low e = sym (take-append-drop at bs) ∙ ap (λ r. take at bs ++ r) (drop_more bs at 0 low ∙ ap (λ b. b ∷ drop (at + 1) bs) (eqb-true _ _ e))

-- the first place of a byte, or that there is none
pub first_place : (byte : ℕ) (bs : List ℕ) (r : Option ℕ) → IsFirstByte (is_byte byte) bs r
    → MatchOption r (list_any (λ b. eqb b byte) bs ≡ false) (λ at. (at < length bs) × (list_any (λ b. eqb b byte) (take at bs) ≡ false) × (bs ≡ take at bs ++ byte ∷ drop (at + 1) bs))
first_place byte bs None h = none_at byte bs (λ k low e. h k (omega arith) low e)
first_place byte bs (Some at) h =
    (h.0.high, none_before byte bs at (omega (arith, h.0.high)) (λ k low e. h.0.before k (omega arith) low e), split_at byte bs at h.0.high h.1)

-- ---- the parts of a line

onto-first : (b : ℕ) (part : List ℕ) (parts : List (List ℕ)) → onto_first b (part ∷ parts) ≡ (b ∷ part) ∷ parts
onto-first b part parts = refl

pub parts-none : (bs : List ℕ) → list_any (λ b. eqb b 32) bs ≡ false → parts_of bs ≡ bs ∷ []
parts-none [] h = refl
parts-none (b ∷ bs) h = by (parts-none bs) (eqb b 32) h where
  by : (list_any (λ x. eqb x 32) bs ≡ false → parts_of bs ≡ bs ∷ []) → (t : Bool) → (t || list_any (λ x. eqb x 32) bs) ≡ false → cond t ([] ∷ parts_of bs) (onto_first b (parts_of bs)) ≡ (b ∷ bs) ∷ []
  by rest true e = absurd (false≢true (sym e))
  by rest false e = rw (rest e) refl

pub parts-split : (word rest : List ℕ) → list_any (λ b. eqb b 32) word ≡ false → parts_of (word ++ 32 ∷ rest) ≡ word ∷ parts_of rest
parts-split [] rest h = refl
parts-split (b ∷ word) rest h = by (parts-split word rest) (eqb b 32) h where
  by : (list_any (λ x. eqb x 32) word ≡ false → parts_of (word ++ 32 ∷ rest) ≡ word ∷ parts_of rest) → (t : Bool) → (t || list_any (λ x. eqb x 32) word) ≡ false
      → cond t ([] ∷ parts_of (word ++ 32 ∷ rest)) (onto_first b (parts_of (word ++ 32 ∷ rest))) ≡ (b ∷ word) ∷ parts_of rest
  by more true e = absurd (false≢true (sym e))
  by more false e = rw (more e) refl

first_part : (b : ℕ) (parts : List (List ℕ)) → (part : List ℕ) × (rest : List (List ℕ)) × (onto_first b parts ≡ part ∷ rest)
first_part b [] = (b ∷ [], [], refl)
first_part b (part ∷ parts) = (b ∷ part, parts, refl)

-- there is always a part
parts-some : (bs : List ℕ) → (part : List ℕ) × (rest : List (List ℕ)) × (parts_of bs ≡ part ∷ rest)
parts-some [] = ([], [], refl)
parts-some (b ∷ bs) = by (eqb b 32) where
  by : (t : Bool) → (part : List ℕ) × (rest : List (List ℕ)) × (cond t ([] ∷ parts_of bs) (onto_first b (parts_of bs)) ≡ part ∷ rest)
  by true = ([], parts_of bs, refl)
  by false = first_part b (parts_of bs)

full-from : (parts words : List (List ℕ)) (t : Bool) → cond t (Some parts) None ≡ Some words → (t ≡ true) × (parts ≡ words)
full-from parts words true e = (refl, cc)
full-from parts words false e = cc

moment-has_bytes : (text : List ℕ) (now : ℕ) → moment_of text ≡ Some now → has_bytes text ≡ true
moment-has_bytes [] now e = cc
moment-has_bytes (b ∷ text) now e = grind (arith, nat_tests)

request-read : (first name : List ℕ) (now : ℕ) (parts words : List (List ℕ)) → (part : List ℕ) × (rest : List (List ℕ)) × (parts ≡ part ∷ rest)
    → parts ≡ words → moment_of first ≡ Some now → request_of (first ∷ name ∷ parts) ≡ Some (now, words)
request-read first name now parts words some same e = rw (some.2, e) (ap (λ ws. Some (now, ws)) (sym some.2 ∙ same))

pub line-read : (line first left name rest : List ℕ) (now : ℕ) (words : List (List ℕ)) → length line ≤ line_limit
    → parts_of line ≡ first ∷ parts_of left → parts_of left ≡ name ∷ parts_of rest → moment_of first ≡ Some now → has_bytes name ≡ true
    → full_parts (parts_of rest) ≡ Some words → line_of line ≡ Some (now, words)
line-read line first left name rest now words short one two e named all =
    let within : leb (length line) line_limit ≡ true = grind (arith, nat_tests) in
    let full = full-from (parts_of rest) words _ all in
    rw (within, one, two, moment-has_bytes first now e, named, full.0) (request-read first name now (parts_of rest) words (parts-some rest) full.1 e)
