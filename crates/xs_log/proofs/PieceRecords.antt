-- Which words the record of a piece has.
use Rattle.std.proofs.Common.{◌≡◌, ◌≢◌, inl, inr, ℕ, List, [], ◌∷◌, map, decimal, codes, Some, None, sym, ap, ◌∙◌}
use Rattle.xs_tape.specs.Escape.{escaped}
use Rattle.xs_tape.specs.Records.{with_checksum, with_size}
use Rattle.xs_replay.specs.Pieces as content
use Rattle.xs_replay.specs.SnapshotWords.{kind_of, values_of, words_of_piece, Fits}
use Rattle.xs_replay.specs.PieceReading.{piece_of_words}
use Rattle.xs_replay.specs.Snapshot.{piece_record}
use Rattle.xs_replay.proofs.PiecesSpelled.{words-said}
use Rattle.xs_replay.proofs.SnapshotsRead.{piece-back}
use Rattle.xs_log.specs.SnapshotReading.{MayStandBehind}
use Rattle.xs_log.proofs.PlainWords.{not_checked, record_parts, parts_record}
use Rattle.xs_log.proofs.SnapshotPlaces.{kind_is_no_end}

-- a record that is possible there has its size
pub size_missing : (sent : List (List ℕ)) (count : ℕ) → ((words : List (List ℕ)) → sent ≢ with_size (map escaped words)) → MayStandBehind count sent → ⊥
size_missing sent count none (inl end) = none (with_checksum (codes "END") (decimal count ∷ [])) end
size_missing sent count none (inr piece) = none (with_checksum (kind_of piece.0) (values_of piece.0)) piece.2

-- and its checksum
pub sum_missing : (sent items slice : List (List ℕ)) (count : ℕ) → sent ≡ with_size (map escaped items) → slice ≡ items → ((first : List ℕ) (rest : List (List ℕ)) → slice ≢ with_checksum first rest) → MayStandBehind count sent → ⊥
sum_missing sent items slice count e f none (inl end) = none (codes "END") (decimal count ∷ []) (f ∙ not_checked sent items (decimal count ∷ []) (codes "END") e end)
sum_missing sent items slice count e f none (inr piece) = none (kind_of piece.0) (values_of piece.0) (f ∙ not_checked sent items (values_of piece.0) (kind_of piece.0) e piece.2)

-- an end with another count isn't possible
pub other_count : (sent items slice rest : List (List ℕ)) (first : List ℕ) (count : ℕ) → sent ≡ with_size (map escaped items) → slice ≡ items → slice ≡ with_checksum first rest → first ≡ codes "END" → rest ≢ decimal count ∷ []
    → MayStandBehind count sent → ⊥
other_count sent items slice rest first count e f g end not (inl is) = not (record_parts sent items slice rest (decimal count ∷ []) first (codes "END") e f g is).1
other_count sent items slice rest first count e f g end not (inr piece) =
    kind_is_no_end piece.0 (sym (record_parts sent items slice rest (values_of piece.0) first (kind_of piece.0) e f g piece.2).0 ∙ end)

-- words that spell no piece aren't possible
pub no_piece : (sent items slice rest : List (List ℕ)) (first : List ℕ) (count : ℕ) → sent ≡ with_size (map escaped items) → slice ≡ items → slice ≡ with_checksum first rest → first ≢ codes "END" → None ≡ piece_of_words (first ∷ rest)
    → MayStandBehind count sent → ⊥
no_piece sent items slice rest first count e f g end none (inl is) = end (record_parts sent items slice rest (decimal count ∷ []) first (codes "END") e f g is).0
no_piece sent items slice rest first count e f g end none (inr piece) =
    let parts = record_parts sent items slice rest (values_of piece.0) first (kind_of piece.0) e f g piece.2 in
    let words : first ∷ rest ≡ words_of_piece piece.0 = ap (λ t. t ∷ rest) parts.0 ∙ ap (λ ws. kind_of piece.0 ∷ ws) parts.1 in
    let both : None ≡ Some piece.0 = none ∙ ap piece_of_words words ∙ piece-back piece.0 piece.1 in
    absurd (cc (both))

-- the record of a piece
pub piece_read : (sent items slice rest : List (List ℕ)) (first : List ℕ) (piece : content.Piece) → sent ≡ with_size (map escaped items) → slice ≡ items → slice ≡ with_checksum first rest → Some piece ≡ piece_of_words (first ∷ rest)
    → (sent ≡ piece_record piece) × Fits piece
piece_read sent items slice rest first piece e f g some =
    let said = words-said (first ∷ rest) piece (sym some) in
    let kind : first ≡ kind_of piece = cc (said.0) in
    let values : rest ≡ values_of piece = cc (said.0) in
    (parts_record sent items slice rest (values_of piece) first (kind_of piece) e f g kind values, said.1)
