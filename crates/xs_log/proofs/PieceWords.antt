-- Words that spell a key.
use Rattle.std.proofs.Common.{◌≡◌, ℕ, List, [], ◌∷◌, length, Some, refl, sym, ap, ◌∙◌, arith}
use Rattle.std.proofs.Math.ListN.{get_or}
use Rattle.xs_stream.specs.declared.id.Id.{Id}
use Rattle.xs_replay.specs.Pieces.{of_key}
use Rattle.xs_replay.specs.PieceReading.{id_of_words, wide_of_words, key_of_parts, key_of_words}

-- seven words, one by one
seven : (words : List (List ℕ)) (a b c d e f g : List ℕ) → length words ≡ 7 → a ≡ get_or words 0 a → b ≡ get_or words 1 b → c ≡ get_or words 2 c → d ≡ get_or words 3 d → e ≡ get_or words 4 e → f ≡ get_or words 5 f → g ≡ get_or words 6 g
    → words ≡ a ∷ b ∷ c ∷ d ∷ e ∷ f ∷ g ∷ []
seven (a ∷ b ∷ c ∷ d ∷ e ∷ f ∷ g ∷ []) x0 x1 x2 x3 x4 x5 x6 n h0 h1 h2 h3 h4 h5 h6 = rw (h0, h1, h2, h3, h4, h5, h6) refl
seven [] x0 x1 x2 x3 x4 x5 x6 n h0 h1 h2 h3 h4 h5 h6 = absurd (omega arith)
seven (a ∷ []) x0 x1 x2 x3 x4 x5 x6 n h0 h1 h2 h3 h4 h5 h6 = absurd (omega arith)
seven (a ∷ b ∷ []) x0 x1 x2 x3 x4 x5 x6 n h0 h1 h2 h3 h4 h5 h6 = absurd (omega arith)
seven (a ∷ b ∷ c ∷ []) x0 x1 x2 x3 x4 x5 x6 n h0 h1 h2 h3 h4 h5 h6 = absurd (omega arith)
seven (a ∷ b ∷ c ∷ d ∷ []) x0 x1 x2 x3 x4 x5 x6 n h0 h1 h2 h3 h4 h5 h6 = absurd (omega arith)
seven (a ∷ b ∷ c ∷ d ∷ e ∷ []) x0 x1 x2 x3 x4 x5 x6 n h0 h1 h2 h3 h4 h5 h6 = absurd (omega arith)
seven (a ∷ b ∷ c ∷ d ∷ e ∷ f ∷ []) x0 x1 x2 x3 x4 x5 x6 n h0 h1 h2 h3 h4 h5 h6 = absurd (omega arith)
seven (a ∷ b ∷ c ∷ d ∷ e ∷ f ∷ g ∷ h ∷ words) x0 x1 x2 x3 x4 x5 x6 n h0 h1 h2 h3 h4 h5 h6 = absurd (omega arith)

pub key_said : (words : List (List ℕ)) (a b c d e f g name : List ℕ) (top deleted : Id) (added : ℕ) → length words ≡ 7 → a ≡ get_or words 0 a → b ≡ get_or words 1 b → c ≡ get_or words 2 c → d ≡ get_or words 3 d → e ≡ get_or words 4 e
    → f ≡ get_or words 5 f → g ≡ get_or words 6 g → name ≡ a → Some top ≡ id_of_words b c → Some added ≡ wide_of_words d e → Some deleted ≡ id_of_words f g → Some (of_key name top added deleted) ≡ key_of_words words
key_said words a b c d e f g name top deleted added n h0 h1 h2 h3 h4 h5 h6 k t m l =
    ap (λ x. Some (of_key x top added deleted)) k
    ∙ ap (λ x. key_of_parts a x (Some added) (Some deleted)) t
    ∙ ap (λ x. key_of_parts a (id_of_words b c) x (Some deleted)) m
    ∙ ap (λ x. key_of_parts a (id_of_words b c) (wide_of_words d e) x) l
    ∙ ap key_of_words (sym (seven words a b c d e f g n h0 h1 h2 h3 h4 h5 h6))
