-- A snapshot that is being written to a tape.
use Rattle.std.specs.Prelude.{◌≡◌, ℕ, ◌^◌, ◌<◌, List, [], length, Option, IfSome}
use Rattle.std.specs.List.{AllByRecursion}
use Rattle.xs_tape.specs.Records.{CanBeSpelled, spellings}
use Rattle.xs_tape.specs.Tape.{TapeBytes}
use Rattle.xs_tape.specs.Writing.{Writing, Has}
use Rattle.xs_replay.specs.Pieces.{Piece}
use Rattle.xs_replay.specs.SnapshotWords.{Fits}
use Rattle.xs_log.specs.SnapshotPieces.{front_records, MomentFits, HasPieces}

-- the last file of a tape is empty, after these closed ones, if that is known
abbrev pub IsEmptyFile : List (List ℕ) → Option TapeBytes → Type 0
IsEmptyFile closed holds = IfSome holds (λ tape. tape ≡ record { closed = closed; written = []; kept = 0 })

-- a writer of a snapshot: what its tape has and what is pending, and the number of pieces that were put
pub record SnapshotWriting : Type 0 where
  pub writing : Writing
  pub count : ℕ

-- after these closed files a tape has a header with this number and this moment, and these pieces after it, or they are
-- pending
pub record HasPut
    (number : ℕ) (closed : List (List ℕ)) (writer : SnapshotWriting) (moment : Option ℕ) (pieces : List Piece)
    : Type 0 where
  pub on_tape : Has writer.writing closed (spellings (front_records number moment pieces)) 0
  pub spelled : AllByRecursion CanBeSpelled (front_records number moment pieces)
  pub count_is : writer.count ≡ length pieces
  pub number_small : number < 2 ^ 64
  pub moment_fits : MomentFits moment
  pub fits : AllByRecursion Fits pieces

-- the last file of a tape is a snapshot with this number, this moment and these pieces, all of it kept, if the content
-- of the tape is known
abbrev pub KeepsPieces : ℕ → List (List ℕ) → Option TapeBytes → Option ℕ → List Piece → Type 0
KeepsPieces number closed holds moment pieces =
    IfSome holds (λ tape. (tape.closed ≡ closed) × HasPieces number tape.written moment pieces
    × (tape.kept ≡ length tape.written))
