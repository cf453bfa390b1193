-- Which record follows the first ones of a snapshot.
use Rattle.std.proofs.Common.{◌≡◌, ◌≢◌, inl, inr, ℕ, ◌+◌, List, [], ◌∷◌, ◌++◌, map, length, decimal, codes, bytes_eq, false, refl, sym, ap, ◌∙◌, arith}
use Rattle.std.proofs.lemmas.Bool.{false≢true}
use Rattle.std.specs.List.{AllByRecursion}
use Rattle.xs_replay.specs.Pieces.{Piece, of_key, of_entry, of_group, of_consumer, of_row}
use Rattle.xs_replay.specs.SnapshotWords.{kind_of, values_of, Fits}
use Rattle.xs_replay.specs.Snapshot.{piece_record}
use Rattle.xs_replay.proofs.Logs.{same-plain}
use Rattle.xs_log.specs.SnapshotPieces.{end_record}
use Rattle.xs_log.specs.SnapshotReading.{MayStandBehind}

abbrev Requests : Type 0
Requests = List (List (List ℕ))

is-no-end : (piece : Piece) → bytes_eq (kind_of piece) (codes "END") ≡ false
is-no-end (of_key name top added deleted) = refl
is-no-end (of_entry id fields) = refl
is-no-end (of_group name cursor) = refl
is-no-end (of_consumer name moment) = refl
is-no-end (of_row id row) = refl

pub kind_is_no_end : (piece : Piece) → kind_of piece ≢ codes "END"
kind_is_no_end piece e = false≢true (sym (is-no-end piece) ∙ ap (λ k. bytes_eq k (codes "END")) e)

-- no piece is an end
pub no_end : (piece : Piece) (count : ℕ) → piece_record piece ≢ end_record count
no_end piece count e =
    let same = same-plain (kind_of piece) (codes "END") (values_of piece) (decimal count ∷ []) e in
    kind_is_no_end piece same.0

-- what follows pieces
pub record Place (count : ℕ) (others : Requests) : Type 0 where
  pub words : List (List ℕ)
  pub more : Requests
  pub split : others ≡ words ∷ more
  pub may : MayStandBehind count words

pub place-of : (pieces all : List Piece) (others : Requests) (n count : ℕ) → AllByRecursion Fits all → length all + count ≡ length pieces + n → map piece_record all ++ end_record n ∷ [] ≡ map piece_record pieces ++ others → Place count others
place-of [] [] others n count fits size e =
    let same : n ≡ count = omega arith in
    record { words = end_record count; more = []; split = sym e ∙ ap (λ k. end_record k ∷ []) same; may = inl refl }
place-of [] (p ∷ all) others n count fits size e =
    record { words = piece_record p; more = map piece_record all ++ end_record n ∷ []; split = sym e; may = inr (p, fits.0, refl) }
place-of (q ∷ pieces) [] others n count fits size e =
    let first : piece_record q ≡ end_record n = cc in
    absurd (no_end q n first)
place-of (q ∷ pieces) (p ∷ all) others n count fits size e =
    let behind : map piece_record all ++ end_record n ∷ [] ≡ map piece_record pieces ++ others = cc in
    let less : length all + count ≡ length pieces + n = omega arith in
    place-of pieces all others n count fits.1 less behind

-- nothing follows an end
pub end_last : (pieces all : List Piece) (others : Requests) (n count : ℕ) → map piece_record all ++ end_record n ∷ [] ≡ map piece_record pieces ++ end_record count ∷ others → others ≡ []
end_last [] [] others n count e = cc
end_last [] (p ∷ all) others n count e =
    let first : piece_record p ≡ end_record count = cc in
    absurd (no_end p count first)
end_last (q ∷ pieces) [] others n count e =
    let first : piece_record q ≡ end_record n = cc in
    absurd (no_end q n first)
end_last (q ∷ pieces) (p ∷ all) others n count e =
    let behind : map piece_record all ++ end_record n ∷ [] ≡ map piece_record pieces ++ end_record count ∷ others = cc in
    end_last pieces all others n count behind
