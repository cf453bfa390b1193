-- Snapshots by their pieces, whatever their content is.
use Rattle.std.specs.Prelude.{◌≡◌, ℕ, ◌^◌, ◌<◌, ◌≤◌, List, [], ◌∷◌, map, length, decimal, codes, Option, IfSome}
use Rattle.std.specs.List.{AllByRecursion}
use Rattle.xs_tape.specs.Records.{CanBeSpelled, record_words, spellings}
use Rattle.xs_replay.specs.Pieces.{Piece}
use Rattle.xs_replay.specs.SnapshotWords.{Fits}
use Rattle.xs_replay.specs.Snapshot.{snapshot_header, piece_record, piece_records}

-- the record that ends a snapshot of this many pieces
abbrev pub end_record : ℕ → List (List ℕ)
end_record count = record_words (codes "END") (decimal count ∷ [])

-- the records of a snapshot that isn't at its end: its header and its first pieces
abbrev pub front_records : ℕ → Option ℕ → List Piece → List (List (List ℕ))
front_records number moment pieces = snapshot_header number moment ∷ map piece_record pieces

-- all records of a snapshot
abbrev pub all_records : ℕ → Option ℕ → List Piece → List (List (List ℕ))
all_records number moment pieces = snapshot_header number moment ∷ piece_records pieces

-- words that a record may have after its first, whatever their bytes are: each has at most 256 MiB
pub record AreShort (words : List (List ℕ)) : Type 0 where
  pub few : length words ≤ 1048573
  pub short : AllByRecursion (λ word. length word ≤ 268435456) words

-- a moment is in range, if there is one
abbrev pub MomentFits : Option ℕ → Type 0
MomentFits moment = IfSome moment (λ m. m < 2 ^ 63)

-- these bytes are a snapshot with this number, this moment and these pieces
pub record HasPieces (number : ℕ) (bytes : List ℕ) (moment : Option ℕ) (pieces : List Piece) : Type 0 where
  pub bytes_are : bytes ≡ spellings (all_records number moment pieces)
  pub spelled : AllByRecursion CanBeSpelled (all_records number moment pieces)
  pub number_small : number < 2 ^ 64
  pub moment_fits : MomentFits moment
  pub fits : AllByRecursion Fits pieces
