-- A snapshot of a keyspace that is being written to a tape.
use Rattle.std.specs.Prelude.{◌≡◌, ℕ, ◌+◌, ◌<◌, ◌^◌, false, List, ◌++◌, map, length, Option, IfSome}
use Rattle.std.specs.List.{AllByRecursion, flat_map}
use Rattle.xs_stream.specs.declared.id.Id.{Id}
use Rattle.xs_stream.specs.declared.field.Field.{Field}
use Rattle.xs_group.specs.GroupState.{RowState, GroupState}
use Rattle.xs_tape.specs.Tape.{TapeBytes}
use Rattle.xs_replay.specs.After.{ServerState}
use Rattle.xs_replay.specs.Pieces.{Piece, of_entry, of_consumer, of_row, pieces_of_group}
use Rattle.xs_replay.specs.SnapshotWords.{values_of}
use Rattle.xs_replay.specs.Snapshot.{IsSnapshotFile}
use Rattle.xs_log.specs.SnapshotPieces.{AreShort}
use Rattle.xs_log.specs.SnapshotWriting.{SnapshotWriting, HasPut}

-- ---- the pieces of a part

abbrev pub pieces_of_rows : List (Id × RowState) → List Piece
pieces_of_rows rows = map (λ r. of_row r.0 r.1) rows

abbrev pub pieces_of_consumers : List (List ℕ × ℕ) → List Piece
pieces_of_consumers consumers = map (λ c. of_consumer c.0 c.1) consumers

abbrev pub pieces_of_entries : List (Id × List Field) → List Piece
pieces_of_entries entries = map (λ x. of_entry x.0 x.1) entries

abbrev pub pieces_of_groups : List (List ℕ × GroupState) → List Piece
pieces_of_groups groups = flat_map pieces_of_group groups

-- ---- what is put

-- whatever pieces a writer had put, these follow them now, and no call of the tape has failed
pub record HasPutMore (old new : SnapshotWriting) (more : List Piece) : Type 0 where
  pub puts : (number : ℕ) (closed : List (List ℕ)) (moment : Option ℕ) (pieces : List Piece) →
      HasPut number closed old moment pieces → HasPut number closed new moment (pieces ++ more)
  pub count_is : new.count ≡ old.count + length more
  pub sound : new.writing.broken ≡ false

-- after this many pieces these can be put: their words are few and short, and a number of 64 bits can count all pieces
pub record CanBePut (before : ℕ) (pieces : List Piece) : Type 0 where
  pub short : AllByRecursion (λ piece. AreShort (values_of piece)) pieces
  pub few : before + length pieces < 2 ^ 64

-- after these closed files the last file of a tape is a snapshot of this state, all of it kept, and the log after it
-- has this number, if the content of the tape is known
abbrev pub KeepsSnapshot : ℕ → List (List ℕ) → Option TapeBytes → ServerState → Type 0
KeepsSnapshot number closed holds state =
    IfSome holds (λ tape. (tape.closed ≡ closed) × IsSnapshotFile number tape.written state
    × (tape.kept ≡ length tape.written))
