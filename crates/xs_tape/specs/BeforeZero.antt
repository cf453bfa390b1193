-- The bytes that are left before the first zero.
use Rattle.std.specs.Prelude.{ℕ, Bool, List, [], Option, if◌then◌else◌}
use Rattle.std.specs.Option.{option_map}
use Rattle.xs_tape.specs.Crash.{before_zero}

-- nothing if a zero was found, else the bytes before the first one
abbrev pub rest_before : Bool → Option (List ℕ) → Option (List ℕ)
rest_before met rest = if met then option_map (λ bytes. []) rest else option_map before_zero rest
