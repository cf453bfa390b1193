-- The content before the first log that is read.
use Rattle.std.specs.Prelude.{◌≡◌, ◌⊎◌, ℕ, List, Option, None}
use Rattle.xs_bytes.specs.SortedMap.{empty}
use Rattle.xs_keys.specs.Content.{Content}
use Rattle.xs_replay.specs.Snapshot.{IsSnapshotFile}

-- a content and a last moment: those of some snapshot, or none
abbrev pub IsStart : Content → Option ℕ → Type 0
IsStart content moment =
    ((content ≡ empty) × (moment ≡ None))
    ⊎ ((number : ℕ) × (bytes : List ℕ) × IsSnapshotFile number bytes (record { content = content; moment = moment }))
