-- What contracts see of the calls of readers and writers.
use Rattle.std.specs.Prelude.{◌≡◌, ℕ, ◌≤◌, Bool, true, false, ◌&&◌, ◌==◌, nat_lt, min, List, length, Result, Ok}
use Rattle.std.specs.Prelude.{Err}
use Rattle.xs_io.specs.Passing.{Passing, Consumes, IsAtEnd}

-- counts stop at the greatest 64-bit number
abbrev pub counter_at : ℕ → ℕ
counter_at n = min n 18446744073709551615

-- a read of no bytes into a slice that isn't empty
abbrev pub is_end : {E : Type 0} → Result ℕ E → List ℕ → Bool
is_end (Ok n) into = n == 0 && nat_lt 0 (length into)
is_end (Err e) into = false

-- an error, or no byte taken of a slice that isn't empty
abbrev pub is_failure : {E : Type 0} → Result ℕ E → List ℕ → Bool
is_failure (Ok n) from = n == 0 && nat_lt 0 (length from)
is_failure (Err e) from = true

-- a read gave `n` bytes, at most 64 KiB, of which `Holds` is true; 0 only at the end
abbrev pub Gave : Passing → Passing → Bool → ℕ → (List ℕ → Type 0) → Type 0
Gave old new ended n Holds =
    (got : List ℕ) × (n ≡ length got) × (n ≤ 65536) × Consumes old new got
    × (n ≡ 0 → IsAtEnd new × (ended ≡ true)) × Holds got
