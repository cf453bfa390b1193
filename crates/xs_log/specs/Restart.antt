-- What is found of the logs on a tape after a crash.
use Rattle.std.specs.Prelude.{◌≡◌, ℕ, suc, ◌≤◌, List, length, take, Option, None}
use Rattle.xs_bytes.specs.SortedMap.{empty}
use Rattle.xs_keys.specs.Event.{Event}
use Rattle.xs_keys.specs.Content.{Content}
use Rattle.xs_tape.specs.Tape.{TapeBytes}
use Rattle.xs_replay.specs.After.{contents_after, moment_after}
use Rattle.xs_log.specs.TapeLog.{AreLogs}

-- this content and this moment are those after the first of the events, including all that were kept; and if the last
-- file is cut after its complete records, and kept, the files are logs with these events
pub record Restarts (tape : TapeBytes) (events : List Event) (kept : ℕ) (file : List ℕ) (content : Content)
    (moment : Option ℕ) (whole : ℕ) : Type 0 where
  pub count : ℕ
  pub within : count ≤ length events
  pub kept_are : kept ≤ count
  pub content_is : content ≡ contents_after empty (take count events)
  pub moment_is : moment ≡ moment_after None (take count events)
  pub goes_on : AreLogs (suc (length tape.closed))
      (record { closed = tape.closed; written = take whole file; kept = whole }) (take count events)
