-- The requests of a log: its header, and then an event in each record.
use Rattle.std.specs.Prelude.{◌≡◌, ℕ, ◌^◌, ◌<◌, List, [], ◌∷◌, decimal, codes, length, Ok}
use Rattle.xs_command.specs.Read.{command_of_words}
use Rattle.xs_command.specs.WellFormed.{IsWellFormed}
use Rattle.xs_keys.specs.Event.{Event, event_moment, event_command}
use Rattle.xs_tape.specs.Records.{record_words, spellings, AreRequests}

-- the number of the model; it is raised whenever the content after an event, of words that were accepted, changes
abbrev pub model_number : ℕ
model_number = 1

-- the header of a log: the format, the log's number and the model's
abbrev pub header_words : ℕ → List (List ℕ)
header_words number = record_words (codes "xs-log") (codes "2" ∷ decimal number ∷ decimal model_number ∷ [])

-- these words are the record of an event: its moment, and the words from which its command is read
pub record IsRecordOf (words : List (List ℕ)) (event : Event) : Type 0 where
  pub plain : List (List ℕ)
  pub stands : words ≡ record_words (decimal (event_moment event)) plain
  pub small : event_moment event < 2 ^ 63
  pub command_is : command_of_words plain ≡ Ok (event_command event)
  pub formed : IsWellFormed (event_command event)

-- the records of events, one after the other
abbrev pub AreRecordsOf : List (List (List ℕ)) → List Event → Type 0
AreRecordsOf [] [] = Unit {0}
AreRecordsOf (words ∷ records) (event ∷ events) = IsRecordOf words event × AreRecordsOf records events
AreRecordsOf _ _ = ⊥

-- the requests of a log with this number and these events; a log that was just created has none
abbrev pub IsLog : ℕ → List (List (List ℕ)) → List Event → Type 0
IsLog number [] events = events ≡ []
IsLog number (header ∷ records) events = (header ≡ header_words number) × AreRecordsOf records events

-- these bytes are a log with these events: `whole` bytes of complete requests, and after them `part` bytes of an
-- unfinished one
pub record HasEvents (number : ℕ) (bytes : List ℕ) (events : List Event) (whole part : ℕ) : Type 0 where
  pub requests : List (List (List ℕ))
  pub rest : List ℕ
  pub are : AreRequests bytes requests rest
  pub is_log : IsLog number requests events
  pub whole_is : whole ≡ length (spellings requests)
  pub part_is : part ≡ length rest
