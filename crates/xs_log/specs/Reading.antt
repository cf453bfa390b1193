-- How far a log was read.
use Rattle.std.specs.Prelude.{◌≡◌, ◌⊎◌, ℕ, ◌<◌, List, ◌∷◌, ◌++◌, length, Option, Some, Ok}
use Rattle.std.specs.List.{AllByRecursion}
use Rattle.xs_resp.specs.HeldBytes.{Held}
use Rattle.xs_keys.specs.Event.{Event, event_moment}
use Rattle.xs_keys.specs.Content.{Content}
use Rattle.xs_tape.specs.Records.{CanBeSpelled, spellings}
use Rattle.xs_replay.specs.After.{after, contents_after, moment_after}
use Rattle.xs_replay.specs.Log.{header_words, IsRecordOf, IsLog}

-- a beginning of the bytes of a log
pub record IsPartOfLog (number : ℕ) (bytes : List ℕ) : Type 0 where
  pub requests : List (List (List ℕ))
  pub events : List Event
  pub more : List ℕ
  pub spelled : AllByRecursion CanBeSpelled requests
  pub is_log : IsLog number requests events
  pub written : bytes ++ more ≡ spellings requests

-- a request was taken at this byte: the header at the first, elsewhere a record, whose event was applied
abbrev pub TakesRequest : ℕ → ℕ → List (List ℕ) → Content → Option ℕ → Content → Option ℕ → Type 0
TakesRequest number at words old before new moment =
    ((at ≡ 0) × (words ≡ header_words number) × (new ≡ old) × (moment ≡ before))
    ⊎ ((0 < at) × ((event : Event) × IsRecordOf words event × (new ≡ after old event)
    × (moment ≡ Some (event_moment event))))

-- these words are possible at this byte of a log
abbrev pub MayStand : ℕ → ℕ → List (List ℕ) → Type 0
MayStand number at words =
    ((at ≡ 0) × (words ≡ header_words number)) ⊎ ((0 < at) × ((event : Event) × IsRecordOf words event))

-- complete requests were taken from these bytes, up to this byte; the rest is held
pub record IsReadUpTo (number : ℕ) (start : Content) (before : Option ℕ) (seen : List ℕ) (held : Held) (at : ℕ)
    (content : Content) (moment : Option ℕ) : Type 0 where
  pub requests : List (List (List ℕ))
  pub rest : List ℕ
  pub events : List Event
  pub holds : held ≡ Ok rest
  pub seen_is : seen ≡ spellings requests ++ rest
  pub spelled : AllByRecursion CanBeSpelled requests
  pub is_log : IsLog number requests events
  pub at_is : at ≡ length (spellings requests)
  pub content_is : content ≡ contents_after start events
  pub moment_is : moment ≡ moment_after before events

-- all bytes of a log that is closed: its header, and complete records
pub record IsClosedLog (number : ℕ) (bytes : List ℕ) (events : List Event) : Type 0 where
  pub header : List (List ℕ)
  pub records : List (List (List ℕ))
  pub bytes_are : bytes ≡ spellings (header ∷ records)
  pub spelled : AllByRecursion CanBeSpelled (header ∷ records)
  pub is_log : IsLog number (header ∷ records) events
