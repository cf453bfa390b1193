-- The files of a tape as logs.
use Rattle.std.specs.Prelude.{◌≡◌, ℕ, suc, ◌+◌, ◌-◌, ◌<◌, ◌≤◌, Bool, false, List, [], ◌∷◌, ◌++◌, length, take, Option}
use Rattle.std.specs.Prelude.{Some, None}
use Rattle.std.specs.List.{AllByRecursion}
use Rattle.xs_keys.specs.Event.{Event}
use Rattle.xs_tape.specs.Records.{CanBeSpelled, spellings}
use Rattle.xs_tape.specs.Tape.{TapeBytes}
use Rattle.xs_tape.specs.Writing.{Writing, IsOnTape}
use Rattle.xs_replay.specs.Log.{IsLog}
use Rattle.xs_log.specs.Reading.{IsClosedLog}

-- these bytes are logs that were written completely, with the numbers from this one on; together they have these events
abbrev pub AreClosedLogs : ℕ → List (List ℕ) → List Event → Type 0
AreClosedLogs number [] events = events ≡ []
AreClosedLogs number (bytes ∷ closed) events =
    (first more : List Event) × IsClosedLog number bytes first × (events ≡ first ++ more)
    × AreClosedLogs (suc number) closed more

-- the files of a tape are logs with these events; if a call has failed, only a beginning of the last one may be
-- written; and enough of its header and its records is kept for the first `kept` of all events
pub record IsLogOnTape
    (broken : Bool) (number : ℕ) (pending : List ℕ) (tape : TapeBytes) (events : List Event) (kept : ℕ) : Type 0 where
  pub closed : List (List ℕ)
  pub before : List Event
  pub last : List Event
  pub requests : List (List (List ℕ))
  pub sure : ℕ
  pub events_are : events ≡ before ++ last
  pub closed_are : AreClosedLogs 1 closed before
  pub number_is : broken ≡ false → number ≡ suc (length closed)
  pub spelled : AllByRecursion CanBeSpelled requests
  pub is_log : IsLog (suc (length closed)) requests last
  pub header : 0 < length requests
  pub within : sure ≤ length requests
  pub header_kept : broken ≡ false → 0 < sure
  pub kept_are : kept ≤ length before + (sure - 1)
  pub on_tape : IsOnTape broken pending tape closed (spellings requests) (length (spellings (take sure requests)))

abbrev pub MayBeLogOnTape : Bool → ℕ → List ℕ → Option TapeBytes → List Event → ℕ → Type 0
MayBeLogOnTape broken number pending None events kept = Unit {0}
MayBeLogOnTape broken number pending (Some tape) events kept = IsLogOnTape broken number pending tape events kept

-- so it is, if the content of the tape is known
abbrev pub HasLog : Bool → ℕ → Writing → List Event → ℕ → Type 0
HasLog broken number writing events kept = MayBeLogOnTape broken number writing.pending writing.holds events kept

-- the closed files of a tape are logs with these events, and the last one is empty; it will get this number
pub record HasClosedLogs (number : ℕ) (pending : List ℕ) (tape : TapeBytes) (events : List Event) : Type 0 where
  pub closed : List (List ℕ)
  pub closed_are : AreClosedLogs 1 closed events
  pub number_is : number ≡ suc (length closed)
  pub on_tape : IsOnTape false pending tape closed [] 0

abbrev pub MayHaveClosedLogs : ℕ → List ℕ → Option TapeBytes → List Event → Type 0
MayHaveClosedLogs number pending None events = Unit {0}
MayHaveClosedLogs number pending (Some tape) events = HasClosedLogs number pending tape events

abbrev pub AwaitsHeader : ℕ → Writing → List Event → Type 0
AwaitsHeader number writing events = MayHaveClosedLogs number writing.pending writing.holds events

-- the files of a tape are logs with these events, all of them kept; the last one has this number, and may have no
-- header
pub record AreLogs (number : ℕ) (tape : TapeBytes) (events : List Event) : Type 0 where
  pub before : List Event
  pub last : List Event
  pub requests : List (List (List ℕ))
  pub events_are : events ≡ before ++ last
  pub closed_are : AreClosedLogs 1 tape.closed before
  pub number_is : number ≡ suc (length tape.closed)
  pub spelled : AllByRecursion CanBeSpelled requests
  pub is_log : IsLog number requests last
  pub written_is : tape.written ≡ spellings requests
  pub kept_is : tape.kept ≡ length tape.written

abbrev pub MayBeLogs : ℕ → Option TapeBytes → List Event → Type 0
MayBeLogs number None events = Unit {0}
MayBeLogs number (Some tape) events = AreLogs number tape events
