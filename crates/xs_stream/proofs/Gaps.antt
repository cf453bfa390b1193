-- Bytes that move down or up over a gap, piece by piece.
use Rattle.std.proofs.Common.{◌≡◌, ℕ, ◌+◌, ◌-◌, ◌≤◌, List, ◌++◌, length, take, drop, sym, ap, ◌∙◌, arith, append_assoc}
use Rattle.std.proofs.lemmas.List.{take-append-drop, take-append-le, drop-append-le, drop-take, take-take}
use Rattle.std.proofs.lemmas.List.{length-append, length-take, length-drop, drop_all, append-nil}
use Rattle.std.proofs.Math.Seq.{take-append_seam, drop-append_seam, drop-append-add, drop-drop, take-add}

-- the bytes before a gap and after it, once one more piece has moved
module _ (bytes new : List ℕ) (at gap piece : ℕ) (inside : at + gap + piece ≤ length bytes)
    (moved : new ≡ take at bytes ++ (take piece (drop (at + gap) bytes) ++ drop (at + piece) bytes)) where
  before : List ℕ
  before = take at bytes ++ take piece (drop (at + gap) bytes)

  joined : new ≡ before ++ drop (at + piece) bytes
  unfolding before
  joined = moved ∙ sym (append_assoc (take at bytes) (take piece (drop (at + gap) bytes)) (drop (at + piece) bytes))

  long : length before ≡ at + piece
  unfolding before
  long =
      omega (arith, length-append (take at bytes) (take piece (drop (at + gap) bytes)), length-take at bytes, length-take piece (drop (at + gap) bytes), length-drop (at + gap) bytes)

  pub piece-long : length new ≡ length bytes
  piece-long = omega (arith, ap length joined, length-append before (drop (at + piece) bytes), long, length-drop (at + piece) bytes)

  taken : take (at + piece) new ≡ before
  taken = ap (λ n. take n new) (sym long) ∙ ap (take (length before)) joined ∙ take-append_seam before (drop (at + piece) bytes)

  left : drop (at + piece + gap) new ≡ drop (at + gap + piece) bytes
  left =
      let place : at + piece + gap ≡ length before + gap = omega (arith, long) in
      let order : at + piece + gap ≡ at + gap + piece = omega arith in
      ap (λ n. drop n new) place ∙ ap (drop (length before + gap)) joined ∙ drop-append-add before (drop (at + piece) bytes) gap
      ∙ drop-drop gap (at + piece) bytes ∙ ap (λ n. drop n bytes) order

  pub piece-moved : take (at + piece) new ++ drop (at + piece + gap) new ≡ take at bytes ++ drop (at + gap) bytes
  unfolding before
  piece-moved =
      ap (λ b. b ++ drop (at + piece + gap) new) taken ∙ ap (λ b. before ++ b) left
      ∙ append_assoc (take at bytes) (take piece (drop (at + gap) bytes)) (drop (at + gap + piece) bytes)
      ∙ ap (λ b. take at bytes ++ (take piece (drop (at + gap) bytes) ++ b)) (sym (drop-drop piece (at + gap) bytes))
      ∙ ap (λ b. take at bytes ++ b) (take-append-drop piece (drop (at + gap) bytes))

-- after the last piece nothing is left
pub gap-closed : (bytes : List ℕ) (at gap : ℕ) → at + gap ≡ length bytes → take at bytes ≡ take at bytes ++ drop (at + gap) bytes
gap-closed bytes at gap all =
    sym (ap (λ b. take at bytes ++ b) (drop_all (at + gap) bytes (omega (arith, all))) ∙ append-nil (take at bytes))

-- the bytes before a gap and after it, once one more piece has moved up
module _ (first bytes new : List ℕ) (at gap piece from to : ℕ) (inside : at + gap + piece ≤ length bytes)
    (moved : new ≡ take (at + gap) bytes ++ (take piece (drop at bytes) ++ drop (at + gap + piece) bytes)) where
  place : at + gap ≡ length (take (at + gap) bytes)
  place = omega (arith, length-take (at + gap) bytes, inside)

  pub next_count-long : length new ≡ length bytes
  next_count-long =
      omega (arith, ap length moved, length-append (take (at + gap) bytes) (take piece (drop at bytes) ++ drop (at + gap + piece) bytes), length-append (take piece (drop at bytes)) (drop (at + gap + piece) bytes), place, inside, length-take piece (drop at bytes), length-drop at bytes, length-drop (at + gap + piece) bytes)

  pub next_count-before : take (at + piece) bytes ≡ take (at + piece) first → take at new ≡ take at first
  next_count-before same =
      ap (take at) moved ∙ take-append-le at (take (at + gap) bytes) (take piece (drop at bytes) ++ drop (at + gap + piece) bytes) (omega (arith, place))
      ∙ take-take at (at + gap) bytes (omega arith) ∙ sym (take-take at (at + piece) bytes (omega arith)) ∙ ap (take at) same ∙ take-take at (at + piece) first (omega arith)

  pub next_count-behind : at + piece ≤ from → take (at + piece) bytes ≡ take (at + piece) first
      → drop (at + piece + gap) bytes ≡ take (from - (at + piece)) (drop (at + piece) first) ++ drop to first → drop (at + gap) new ≡ take (from - at) (drop at first) ++ drop to first
  next_count-behind within same behind =
      let own : take piece (drop at bytes) ≡ take piece (drop at first) = sym (drop-take at piece bytes) ∙ ap (drop at) same ∙ drop-take at piece first in
      let order : at + gap + piece ≡ at + piece + gap = omega arith in
      let count : piece + (from - (at + piece)) ≡ from - at = omega (arith, within) in
      ap (λ n. drop n new) place ∙ ap (drop (length (take (at + gap) bytes))) moved ∙ drop-append_seam (take (at + gap) bytes) (take piece (drop at bytes) ++ drop (at + gap + piece) bytes)
      ∙ ap (λ b. b ++ drop (at + gap + piece) bytes) own ∙ ap (λ n. take piece (drop at first) ++ drop n bytes) order ∙ ap (λ b. take piece (drop at first) ++ b) behind
      ∙ sym (append_assoc (take piece (drop at first)) (take (from - (at + piece)) (drop (at + piece) first)) (drop to first))
      ∙ ap (λ b. (take piece (drop at first) ++ take (from - (at + piece)) b) ++ drop to first) (sym (drop-drop piece at first))
      ∙ ap (λ b. b ++ drop to first) (sym (take-add piece (from - (at + piece)) (drop at first)) ∙ ap (λ n. take n (drop at first)) count)

-- the end of a part that begins at a place
pub drop-within : (start from : ℕ) (bytes behind : List ℕ) → start ≤ from → from ≤ length bytes → drop start (take from bytes ++ behind) ≡ take (from - start) (drop start bytes) ++ behind
drop-within start from bytes behind within inside =
    let count : start + (from - start) ≡ from = omega (arith, within) in
    drop-append-le start (take from bytes) behind (omega (arith, within, inside, length-take from bytes))
    ∙ ap (λ n. drop start (take n bytes) ++ behind) (sym count) ∙ ap (λ b. b ++ behind) (drop-take start (from - start) bytes)
