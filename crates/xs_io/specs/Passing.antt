-- What contracts see of the bytes of readers and writers: those that are known, and those that have passed.
use Rattle.std.specs.Prelude.{◌≡◌, ℕ, ◌<◌, ◌++◌, List, [], length, take, Option, Result, MatchResult}
use Rattle.std.specs.Io.KnownBytes as std

pub record Passing : Type 0 where
  -- the bytes that are left in a reader, or that a writer holds, if they are known
  pub known : Option (List ℕ)
  -- the bytes that were given or taken since it was made
  pub passed : List ℕ

-- what is known of the bytes of a reader
abbrev pub known_by : {R : Type 0} → (R → Passing) → R → Option (List ℕ)
known_by rest reader = (rest reader).known

-- nothing has passed yet
abbrev pub at_first : Option (List ℕ) → Passing
at_first known = record { known = known; passed = [] }

-- these bytes were given, and no others
abbrev pub Consumes : Passing → Passing → List ℕ → Type 0
Consumes old new bytes = std.Consumes old.known new.known bytes × (new.passed ≡ old.passed ++ bytes)

-- these bytes were taken, and no others
abbrev pub Appends : Passing → Passing → List ℕ → Type 0
Appends old new bytes = std.Appends old.known new.known bytes × (new.passed ≡ old.passed ++ bytes)

-- nothing has passed
abbrev pub Keeps : Passing → Passing → Type 0
Keeps old new = std.Keeps old.known new.known × (new.passed ≡ old.passed)

-- no known byte is left
abbrev pub IsAtEnd : Passing → Type 0
IsAtEnd passing = std.IsAtEnd passing.known

-- a read gives the front of the known bytes, and nothing only at the end or if there is no room
abbrev pub ReadConsumes : {E : Type 0} → Passing → Passing → Result ℕ E → List ℕ → Type 0
ReadConsumes old new result into =
    MatchResult result (λ n. Consumes old new (take n into) × (n ≡ 0 → 0 < length into → IsAtEnd new)) (λ _. Keeps old new)

-- a write takes the front of the slice
abbrev pub WriteAppends : {E : Type 0} → Passing → Passing → Result ℕ E → List ℕ → Type 0
WriteAppends old new result from = MatchResult result (λ n. Appends old new (take n from)) (λ _. Keeps old new)
