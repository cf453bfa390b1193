-- The first line end after bytes without one.
use Rattle.std.proofs.Common.{◌≡◌, ℕ, ◌+◌, ◌<◌, false, ◌||◌, List, [], ◌∷◌, ◌++◌, length, take, drop, sym, ap, ◌∙◌}
use Rattle.std.proofs.Common.{append_assoc, arith, length-append, length-drop}
use Rattle.std.specs.List.{list_any}
use Rattle.std.proofs.lemmas.List.{append-nil, take-append-drop, take-append-le, drop-append-le, length-take-le}
use Rattle.std.proofs.lemmas.List.Folds.{list_any-append}
use Rattle.xs_script.specs.Line.{is_line_end}
use Rattle.xs_script.proofs.Emptiness.{none-came}

cut-at : (held front rest : List ℕ) (n : ℕ) → held ≡ front ++ 10 ∷ rest → length front ≡ n → (take n held ≡ front) × (drop (n + 1) held ≡ rest)
cut-at held front rest n is len =
    let ended = front ++ 10 ∷ [] in
    let size = length-append front (10 ∷ []) in
    let none = none-came (drop n front) (omega (arith, length-drop n front, len)) in
    let gone = none-came (drop (n + 1) ended) (omega (arith, length-drop (n + 1) ended, size, len)) in (
      ap (take n) is ∙ take-append-le n front (10 ∷ rest) (omega (arith, len)) ∙ sym (append-nil (take n front)) ∙ ap (λ d. take n front ++ d) (sym none) ∙ take-append-drop n front,
      ap (drop (n + 1)) (is ∙ sym (append_assoc front (10 ∷ []) rest)) ∙ drop-append-le (n + 1) ended rest (omega (arith, size, len)) ∙ ap (λ d. d ++ rest) gone,
    )

pub no-end : (searched rest : List ℕ) → list_any is_line_end searched ≡ false → list_any is_line_end rest ≡ false → list_any is_line_end (searched ++ rest) ≡ false
no-end searched rest none more = list_any-append is_line_end searched rest ∙ ap (λ b. b || list_any is_line_end rest) none ∙ more

pub end-behind : (held searched rest : List ℕ) (count at : ℕ) → held ≡ searched ++ rest → length searched ≡ count → list_any is_line_end searched ≡ false
    → (at < length rest) × (list_any is_line_end (take at rest) ≡ false) × (rest ≡ take at rest ++ 10 ∷ drop (at + 1) rest)
    → (count + at < length held) × (list_any is_line_end (take (count + at) held) ≡ false) × (held ≡ take (count + at) held ++ 10 ∷ drop (count + at + 1) held)
end-behind held searched rest count at is size none (some, more, split) =
    let front = searched ++ take at rest in
    let whole : held ≡ front ++ 10 ∷ drop (at + 1) rest = is ∙ ap (λ r. searched ++ r) split ∙ sym (append_assoc searched (take at rest) (10 ∷ drop (at + 1) rest)) in
    let len : length front ≡ count + at = omega (arith, length-append searched (take at rest), length-take-le at rest (omega (arith, some)), size) in
    let cut = cut-at held front (drop (at + 1) rest) (count + at) whole len in (
      omega (arith, ap length is, length-append searched rest, some, size),
      ap (list_any is_line_end) cut.0 ∙ no-end searched (take at rest) none more,
      rw (cut.0, cut.1) whole,
    )
