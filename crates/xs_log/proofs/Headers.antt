-- The header of a log, and other words.
use Rattle.std.proofs.Common.{◌≡◌, ◌≢◌, ℕ, List, [], ◌∷◌, map, decimal, codes, sym, ◌∙◌}
use Rattle.xs_tape.specs.Escape.{escaped}
use Rattle.xs_tape.specs.Records.{with_checksum, with_size}
use Rattle.xs_replay.specs.Log.{model_number, header_words}
use Rattle.xs_log.proofs.PlainWords.{not_checked, same_parts}

-- the words after a header's name
abbrev pub behind_name : ℕ → List (List ℕ)
behind_name number = codes "2" ∷ decimal number ∷ decimal model_number ∷ []

pub not_sealed : (number : ℕ) (sent items slice : List (List ℕ)) → sent ≡ with_size (map escaped items) → slice ≡ items → ((first : List ℕ) (rest : List (List ℕ)) → slice ≢ with_checksum first rest) → sent ≢ header_words number
not_sealed number sent items slice e f none is = none (codes "xs-log") (behind_name number) (f ∙ not_checked sent items (behind_name number) (codes "xs-log") e is)

pub header_parts : (number : ℕ) (sent items slice rest : List (List ℕ)) (name : List ℕ) → sent ≡ with_size (map escaped items) → slice ≡ items → slice ≡ with_checksum name rest → sent ≡ header_words number
    → (name ≡ codes "xs-log") × (rest ≡ behind_name number)
header_parts number sent items slice rest name e f g is =
    same_parts name (codes "xs-log") rest (behind_name number) (sym g ∙ f ∙ not_checked sent items (behind_name number) (codes "xs-log") e is)
