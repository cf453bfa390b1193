-- How far a snapshot was read.
use Rattle.std.specs.Prelude.{◌≡◌, ◌⊎◌, ℕ, ◌^◌, ◌<◌, List, ◌++◌, length, Option, Some, Ok}
use Rattle.std.specs.List.{AllByRecursion}
use Rattle.xs_io.specs.Passing.{Passing, Consumes, IsAtEnd}
use Rattle.xs_resp.specs.HeldBytes.{Held}
use Rattle.xs_tape.specs.Records.{CanBeSpelled, spellings}
use Rattle.xs_replay.specs.Pieces.{Piece}
use Rattle.xs_replay.specs.SnapshotWords.{Fits}
use Rattle.xs_replay.specs.Snapshot.{piece_record}
use Rattle.xs_log.specs.SnapshotPieces.{end_record, front_records, MomentFits, HasPieces}

-- these requests were taken from a source that began so; what was read after them is held
pub record HasTaken (first now : Passing) (held : Held) (requests : List (List (List ℕ))) : Type 0 where
  pub seen : List ℕ
  pub rest : List ℕ
  pub consumes : Consumes first now seen
  pub holds : held ≡ Ok rest
  pub seen_is : seen ≡ spellings requests ++ rest
  pub spelled : AllByRecursion CanBeSpelled requests

-- a source has only these requests
pub record Gives (first : Passing) (requests : List (List (List ℕ))) : Type 0 where
  pub known_is : first.known ≡ Some (spellings requests)
  pub spelled : AllByRecursion CanBeSpelled requests

-- after this many pieces a record may be the end, or one of a piece
abbrev pub MayStandBehind : ℕ → List (List ℕ) → Type 0
MayStandBehind count words = (words ≡ end_record count) ⊎ ((piece : Piece) × Fits piece × (words ≡ piece_record piece))

-- a reader of a snapshot: what is known of its source, the bytes that it holds, and the number of pieces that it has
-- given
pub record SnapshotReading : Type 0 where
  pub source : Passing
  pub held : Held
  pub count : ℕ

-- a header with this number and this moment was read from a source that began so, and these pieces after it
pub record HasRead
    (number : ℕ) (first : Passing) (reading : SnapshotReading) (moment : Option ℕ) (pieces : List Piece)
    : Type 0 where
  pub taken : HasTaken first reading.source reading.held (front_records number moment pieces)
  pub count_is : reading.count ≡ length pieces
  pub number_small : number < 2 ^ 64
  pub moment_fits : MomentFits moment
  pub fits : AllByRecursion Fits pieces

-- all of a source that began so was read, and it is a snapshot with this number, this moment and these pieces
abbrev pub HasReadAll : ℕ → Passing → SnapshotReading → Option ℕ → List Piece → Type 0
HasReadAll number first reading moment pieces =
    (bytes : List ℕ) × Consumes first reading.source bytes × IsAtEnd reading.source
    × HasPieces number bytes moment pieces
