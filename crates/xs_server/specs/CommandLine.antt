-- What the words of a command line ask for.
use Rattle.std.specs.Prelude.{◌≡◌, ℕ, ◌⊎◌, List, [], ◌∷◌, codes, Some, Result, Ok}
use Rattle.clap.specs.Words.{one_text}
use Rattle.clap.specs.declared.parser.matches.Found.{Found}

-- the program's name and `script`, and possibly the end of options after it
abbrev pub AsksScript : List (List ℕ) → Type 0
AsksScript words =
    (name : List ℕ) × ((words ≡ name ∷ codes "script" ∷ []) ⊎ (words ≡ name ∷ codes "script" ∷ codes "--" ∷ []))

-- the number that the option of this name was given, as the type reads its text
abbrev pub IsValueOf : {E : Type 0} → (List ℕ → Result ℕ E → Type 0) → Found → List ℕ → ℕ → Type 0
IsValueOf gives found name n = (text : List ℕ) → one_text found name ≡ Some text → gives text (Ok n)
