-- A name is found among those of its length.
use Rattle.std.proofs.Common.{◌≡◌, ℕ, Bool, true, false, cond, List, [], ◌∷◌, length, Some, refl, sym, ap, ◌∙◌, inl}
use Rattle.std.proofs.Common.{inr, ◌⊎◌}
use Rattle.std.specs.Prelude.{find, filter}
use Rattle.std.specs.Option.{option_map}
use Rattle.std.specs.Char.{to_ascii_lowercase}
use Rattle.std.specs.Str.{str_to_ascii_lowercase}
use Rattle.std.proofs.lemmas.Bool.{false≢true}
use Rattle.std.proofs.lemmas.List.{length-map}
use Rattle.std.proofs.lemmas.Slice.Eq.{bytes_eq-Decides}
use Rattle.xs_command.specs.declared.command_name.CommandName.{CommandName}
use Rattle.xs_command.specs.Words.{is_word}
use Rattle.xs_command.specs.CommandName.{names, name_among, name_of}

length_is : (name word : List ℕ) → is_word name word ≡ true → length word ≡ length name
unfolding is_word
length_is name word e =
    let same = (bytes_eq-Decides (str_to_ascii_lowercase word) (str_to_ascii_lowercase name)).0 e in
    sym (length-map word to_ascii_lowercase) ∙ ap length same ∙ length-map name to_ascii_lowercase

true_or_false : (b : Bool) → (b ≡ true) ⊎ (b ≡ false)
true_or_false true = inl refl
true_or_false false = inr refl

abbrev Finds : List ℕ → (ℕ → Bool) → List (List ℕ × CommandName) → Type 0
Finds word keep table = find (λ e. is_word e.0 word) table ≡ find (λ e. is_word e.0 word) (filter (λ e. keep (length e.0)) table)

finds_more : (word : List ℕ) (keep : ℕ → Bool) → keep (length word) ≡ true → (entry : List ℕ × CommandName) (table : List (List ℕ × CommandName)) → Finds word keep table → Finds word keep (entry ∷ table)
finds_more word keep h entry table others =
    elim (true_or_false (keep (length entry.0))) [
      | inl kept ↦ rw kept (ap (cond (is_word entry.0 word) (Some entry)) others)
      | inr left_out ↦
          elim (true_or_false (is_word entry.0 word)) [
            | inl is ↦ absurd (false≢true (sym left_out ∙ ap keep (sym (length_is entry.0 word is)) ∙ h))
            | inr other ↦ rw (left_out, other) others
          ]
    ]

finds : (word : List ℕ) (keep : ℕ → Bool) → keep (length word) ≡ true → (table : List (List ℕ × CommandName)) → Finds word keep table
finds word keep h [] = refl
finds word keep h (entry ∷ table) = finds_more word keep h entry table (finds word keep h table)

-- it is enough to look among the names that may have the word's length
pub name_by_length : (word : List ℕ) (keep : ℕ → Bool) → keep (length word) ≡ true → name_of word ≡ name_among (filter (λ entry. keep (length entry.0)) names) word
unfolding name_of
name_by_length word keep h = ap (option_map (λ entry. entry.1)) (finds word keep h names)
