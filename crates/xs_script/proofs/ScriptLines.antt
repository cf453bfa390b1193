-- The lines of what was read.
use Rattle.std.proofs.Common.{◌≡◌, ℕ, ◌<◌, Bool, true, false, ◌||◌, cond, eqb, List, [], ◌∷◌, ◌++◌, length, sym, ap}
use Rattle.std.proofs.Common.{◌∙◌, refl, append_assoc, arith}
use Rattle.std.specs.List.{flat_map, list_any}
use Rattle.std.proofs.lemmas.List.{append-nil}
use Rattle.std.proofs.lemmas.Bool.{false≢true}
use Rattle.xs_script.specs.Line.{is_line_end, onto_first, script_lines}
use Rattle.xs_script.specs.Script.{with_end, AreLines}
use Rattle.xs_script.specs.ScriptRun.{IsRead, IsInHand}

-- a line that ends with LF is a line
pub lines-ended : (line tail : List ℕ) → list_any is_line_end line ≡ false → script_lines (line ++ 10 ∷ tail) ≡ line ∷ script_lines tail
lines-ended [] tail h = refl
lines-ended (b ∷ line) tail h = by (lines-ended line tail) (eqb b 10) h where
  by : (list_any is_line_end line ≡ false → script_lines (line ++ 10 ∷ tail) ≡ line ∷ script_lines tail) → (t : Bool) → (t || list_any is_line_end line) ≡ false
      → cond t ([] ∷ script_lines (line ++ 10 ∷ tail)) (onto_first b (script_lines (line ++ 10 ∷ tail))) ≡ (b ∷ line) ∷ script_lines tail
  by rest true e = absurd (false≢true (sym e))
  by rest false e = rw (rest e) refl

-- the last one, which lacks it, is a line unless it is empty
pub lines-last : (line : List ℕ) → list_any is_line_end line ≡ false → 0 < length line → script_lines line ≡ line ∷ []
lines-last [] h some = absurd (omega arith)
lines-last (b ∷ []) h some = by (eqb b 10) h where
  by : (t : Bool) → (t || false) ≡ false → cond t ([] ∷ []) (onto_first b []) ≡ (b ∷ []) ∷ []
  by true e = absurd (false≢true (sym e))
  by false e = refl
lines-last (b ∷ next ∷ line) h some = by (lines-last (next ∷ line)) (eqb b 10) h where
  by : (list_any is_line_end (next ∷ line) ≡ false → 0 < length (next ∷ line) → script_lines (next ∷ line) ≡ (next ∷ line) ∷ []) → (t : Bool) → (t || list_any is_line_end (next ∷ line)) ≡ false
      → cond t ([] ∷ script_lines (next ∷ line)) (onto_first b (script_lines (next ∷ line))) ≡ (b ∷ next ∷ line) ∷ []
  by rest true e = absurd (false≢true (sym e))
  by rest false e = rw (rest e (omega arith)) refl

-- complete lines come first
pub lines-join : (lines : List (List ℕ)) (tail : List ℕ) → AreLines lines → script_lines (flat_map with_end lines ++ tail) ≡ lines ++ script_lines tail
lines-join [] tail are = refl
lines-join (line ∷ lines) tail are =
    ap script_lines (append_assoc (with_end line) (flat_map with_end lines) tail ∙ append_assoc line (10 ∷ []) (flat_map with_end lines ++ tail))
    ∙ lines-ended line (flat_map with_end lines ++ tail) are.0 ∙ ap (λ rest. line ∷ rest) (lines-join lines tail are.1)

-- what was read, with what came since
pub read-more : (read : List ℕ) (lines : List (List ℕ)) (unused got : List ℕ) → IsRead read lines unused → IsRead (read ++ got) lines (unused ++ got)
read-more read lines unused got is = (ap (λ r. r ++ got) is.0 ∙ append_assoc (flat_map with_end lines) unused got, is.1)

pub read-lines : (read : List ℕ) (lines : List (List ℕ)) (unused : List ℕ) → IsRead read lines unused → script_lines read ≡ lines ++ script_lines unused
read-lines read lines unused is = ap script_lines is.0 ∙ lines-join lines unused is.1

flat-more : (lines : List (List ℕ)) (line : List ℕ) → flat_map with_end (lines ++ line ∷ []) ≡ flat_map with_end lines ++ with_end line
flat-more [] line = append-nil (with_end line)
flat-more (first ∷ lines) line = ap (λ rest. with_end first ++ rest) (flat-more lines line) ∙ sym (append_assoc (with_end first) (flat_map with_end lines) (with_end line))

are-more : (lines : List (List ℕ)) (line : List ℕ) → AreLines lines → list_any is_line_end line ≡ false → AreLines (lines ++ line ∷ [])
are-more [] line are h = (h, tt)
are-more (first ∷ lines) line are h = (are.0, are-more lines line are.1 h)

-- one line more is used
pub read-line : (read : List ℕ) (lines : List (List ℕ)) (unused line left : List ℕ) → IsRead read lines unused → unused ≡ line ++ 10 ∷ left → list_any is_line_end line ≡ false
    → IsRead read (lines ++ line ∷ []) left
read-line read lines unused line left is split h = (
  is.0 ∙ ap (λ u. flat_map with_end lines ++ u) split ∙ ap (λ u. flat_map with_end lines ++ u) (sym (append_assoc line (10 ∷ []) left))
      ∙ sym (append_assoc (flat_map with_end lines) (with_end line) left) ∙ ap (λ f. f ++ left) (sym (flat-more lines line)),
  are-more lines line is.1 h,
)

-- the last line, which lacks its end, is in hand
pub in-hand-last : (read : List ℕ) (lines : List (List ℕ)) (line : List ℕ) → IsRead read lines line → list_any is_line_end line ≡ false → IsInHand read lines line []
in-hand-last read lines line is none = (is.0 ∙ ap (λ r. flat_map with_end lines ++ r) (sym (append-nil line)), is.1, none)
