-- Copying words one after the other, as a loop does.
use Rattle.std.proofs.Common.{◌≡◌, ℕ, ◌+◌, ◌≤◌, List, [], ◌∷◌, ◌++◌, length, take, drop, sym, ap, ◌∙◌}
use Rattle.std.proofs.Math.Seq.{take-append-add}
use Rattle.std.proofs.lemmas.List.{take-append-drop, length-take-le, drop-drop}

-- one word more
pub one-more : (n : ℕ) (words : List (List ℕ)) (word : List ℕ) (behind : List (List ℕ)) → n ≤ length words → drop n words ≡ word ∷ behind
    → (take (n + 1) words ≡ take n words ++ word ∷ []) × (drop (n + 1) words ≡ behind)
one-more n words word behind within next =
    let front = take n words in
    let count : length front ≡ n = length-take-le n words within in
    let all : words ≡ front ++ (word ∷ behind) = sym (take-append-drop n words) ∙ ap (λ ws. front ++ ws) next in (
      ap (λ k. take (k + 1) words) (sym count) ∙ ap (take (length front + 1)) all ∙ take-append-add front (word ∷ behind) 1,
      sym (drop-drop 1 n words) ∙ ap (drop 1) next,
    )
