-- The logs of a server: those that are closed, one after the other, and the last one, as a crash may have left it.
use Rattle.std.specs.Prelude.{◌≡◌, ◌≤◌, ℕ, suc, List, [], ◌∷◌, ◌++◌, length, take, Option, Some}
use Rattle.std.specs.List.{AllByRecursion}
use Rattle.xs_keys.specs.Event.{Event}
use Rattle.xs_tape.specs.Crash.{CrashLeaves}
use Rattle.xs_tape.specs.Records.{CanBeSpelled, spellings}
use Rattle.xs_replay.specs.Log.{IsLog}
use Rattle.xs_log.specs.Reading.{IsClosedLog}

-- a crash may leave this file of a log with these events, if this many of its header and its records were kept
pub record CrashLeavesLog (number : ℕ) (events : List Event) (kept : ℕ) (file : List ℕ) : Type 0 where
  pub requests : List (List (List ℕ))
  pub spelled : AllByRecursion CanBeSpelled requests
  pub is_log : IsLog number requests events
  pub within : kept ≤ length requests
  pub leaves : CrashLeaves (length (spellings (take kept requests))) (spellings requests) file

-- the readers give logs that were written completely, with the numbers from this one on; together they have these
-- events
abbrev pub GiveClosedLogs : {R : Type 0} → (R → Option (List ℕ)) → ℕ → List R → List Event → Type 0
GiveClosedLogs rest number [] events = events ≡ []
GiveClosedLogs rest number (reader ∷ readers) events =
    (bytes : List ℕ) × (first more : List Event) × (rest reader ≡ Some bytes) × IsClosedLog number bytes first
    × (events ≡ first ++ more) × GiveClosedLogs rest (suc number) readers more

-- so do those readers whose bytes are known
abbrev pub MayGiveClosedLogs : {R : Type 0} → (R → Option (List ℕ)) → ℕ → List R → List Event → Type 0
MayGiveClosedLogs rest number [] events = events ≡ []
MayGiveClosedLogs rest number (reader ∷ readers) events =
    (first more : List Event) × ((bytes : List ℕ) → rest reader ≡ Some bytes → IsClosedLog number bytes first)
    × (events ≡ first ++ more) × MayGiveClosedLogs rest (suc number) readers more
