-- The time of a server, from the clocks of its system.
use Rattle.std.specs.Prelude.{◌≡◌, ◌+◌, ◌-◌, ◌/◌, ◌⊎◌, ℕ, max, min}

-- a time, and the value of the monotonic clock then, both in nanoseconds
pub record Reading : Type 0 where
  pub time : ℕ
  pub since : ℕ

-- the time this many nanoseconds after the last one: later by that, and while the wall clock is ahead of it, by up to a
-- tenth more
abbrev pub time_after : (last elapsed wall : ℕ) → ℕ
time_after last elapsed wall = max (last + elapsed) (min wall (last + elapsed + elapsed / 10))

-- the reading after another one, if the clocks have these values
abbrev pub IsReadingAfter : (old : Reading) (wall since : ℕ) (new : Reading) → Type 0
IsReadingAfter old wall since new =
    (new.time ≡ time_after old.time (since - old.since) wall) × (new.since ≡ since)

-- the next reading is from the values of the clocks; or they can't be read and nothing changes
abbrev pub IsNextReading : (old new : Reading) → Type 0
IsNextReading old new = (new ≡ old) ⊎ ((wall since : ℕ) × IsReadingAfter old wall since new)
