-- Which requests, and which bytes, are a snapshot.
use Rattle.std.specs.Prelude.{◌≡◌, ℕ, ◌^◌, ◌<◌, List, [], ◌∷◌, ◌++◌, map, length, decimal, codes, Option, Some, None}
use Rattle.std.specs.Prelude.{IfSome}
use Rattle.std.specs.List.{AllByRecursion}
use Rattle.xs_tape.specs.Records.{CanBeSpelled, record_words, spellings}
use Rattle.xs_replay.specs.After.{ServerState}
use Rattle.xs_replay.specs.Log.{model_number}
use Rattle.xs_replay.specs.Pieces.{Piece, pieces_of}
use Rattle.xs_replay.specs.SnapshotWords.{kind_of, values_of, Fits}

-- the moment of the last event, if there was one
abbrev pub moment_words : Option ℕ → List (List ℕ)
moment_words None = []
moment_words (Some moment) = decimal moment ∷ []

-- the values in the header of a snapshot: the format, the number of the log after it, the model's, and the moment
abbrev pub header_values : ℕ → Option ℕ → List (List ℕ)
header_values number moment = codes "1" ∷ decimal number ∷ decimal model_number ∷ moment_words moment

abbrev pub snapshot_header : ℕ → Option ℕ → List (List ℕ)
snapshot_header number moment = record_words (codes "xs-snapshot") (header_values number moment)

abbrev pub piece_record : Piece → List (List ℕ)
piece_record piece = record_words (kind_of piece) (values_of piece)

-- the end of a snapshot, with the number of its pieces
abbrev pub snapshot_end : List Piece → List (List ℕ)
snapshot_end pieces = record_words (codes "END") (decimal (length pieces) ∷ [])

-- the records of pieces, and the end
abbrev pub piece_records : List Piece → List (List (List ℕ))
piece_records pieces = map piece_record pieces ++ snapshot_end pieces ∷ []

-- these requests are a snapshot of this state, and the log after it has this number
pub record IsSnapshot (number : ℕ) (requests : List (List (List ℕ))) (state : ServerState) : Type 0 where
  pub stands : requests ≡ snapshot_header number state.moment ∷ piece_records (pieces_of state.content)
  pub number_small : number < 2 ^ 64
  pub moment_small : IfSome state.moment (λ moment. moment < 2 ^ 63)
  pub fits : AllByRecursion Fits (pieces_of state.content)

-- these bytes are a snapshot of this state, and the log after it has this number
pub record IsSnapshotFile (number : ℕ) (bytes : List ℕ) (state : ServerState) : Type 0 where
  pub requests : List (List (List ℕ))
  pub bytes_are : bytes ≡ spellings requests
  pub spelled : AllByRecursion CanBeSpelled requests
  pub is_snapshot : IsSnapshot number requests state
