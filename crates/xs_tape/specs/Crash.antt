-- What a crash may leave of a file to which bytes were appended, none of them zero. What a sync has kept stays (POSIX,
-- fdatasync). After that the file may end anywhere, and a byte that didn't reach the disk reads as zero. It is a
-- premise that the file system shows no older bytes there (ext4(5) with data=ordered does so).
use Rattle.std.specs.Prelude.{◌≡◌, ◌≢◌, ◌⊎◌, ℕ, ◌==◌, ◌≤◌, List, [], ◌∷◌, length, take, if◌then◌else◌}
use Rattle.std.specs.List.{AllByRecursion}

-- no byte is zero
abbrev pub HasNoZero : List ℕ → Type 0
HasNoZero bytes = AllByRecursion (λ byte. byte ≢ 0) bytes

-- the bytes before the first zero
abbrev pub before_zero : List ℕ → List ℕ
before_zero [] = []
before_zero (byte ∷ rest) = if byte == 0 then [] else byte ∷ before_zero rest

-- each byte of a file is the one that was written at its place, or zero; the file may have any length
abbrev pub IsWrittenOrZero : List ℕ → List ℕ → Type 0
IsWrittenOrZero written [] = Unit {0}
IsWrittenOrZero [] (byte ∷ file) = (byte ≡ 0) × IsWrittenOrZero [] file
IsWrittenOrZero (one ∷ written) (byte ∷ file) = ((byte ≡ one) ⊎ (byte ≡ 0)) × IsWrittenOrZero written file

-- a crash may leave this file if the first `kept` bytes that were written are kept
pub record CrashLeaves (kept : ℕ) (written file : List ℕ) : Type 0 where
  pub within : kept ≤ length written
  pub sure : take kept file ≡ take kept written
  pub others : IsWrittenOrZero written file
