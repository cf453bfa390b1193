-- The pieces that were read of a snapshot are its first ones.
use Rattle.std.proofs.Common.{◌≡◌, ℕ, List, [], ◌∷◌, ◌++◌, map, length, Option, Some, refl, sym, ap, ◌∙◌, subst, append-nil}
use Rattle.std.specs.List.{AllByRecursion}
use Rattle.xs_io.specs.Passing.{Passing}
use Rattle.xs_replay.specs.Pieces.{Piece}
use Rattle.xs_replay.specs.SnapshotWords.{Fits}
use Rattle.xs_replay.specs.Snapshot.{piece_record}
use Rattle.xs_log.specs.SnapshotPieces.{end_record, front_records, all_records, HasPieces}
use Rattle.xs_log.specs.SnapshotReading.{SnapshotReading, HasRead, HasReadAll}
use Rattle.xs_log.proofs.Crashed.{read-whole}
use Rattle.xs_log.proofs.SnapshotInput.{others_behind}
use Rattle.xs_log.proofs.SnapshotLaws.{same-piece, pieces_whole}
use Rattle.xs_log.proofs.SnapshotPlaces.{no_end}
use Rattle.xs_log.proofs.SnapshotReads.{gives_all}

begin : (pieces all : List Piece) (n : ℕ) (others : List (List (List ℕ))) → AllByRecursion Fits pieces → AllByRecursion Fits all
    → map piece_record all ++ end_record n ∷ [] ≡ map piece_record pieces ++ others → (more : List Piece) × (all ≡ pieces ++ more)
begin [] all n others fits may e = (all, refl)
begin (p ∷ pieces) [] n others fits may e =
    let first : piece_record p ≡ end_record n = cc in
    absurd (no_end p n first)
begin (p ∷ pieces) (q ∷ all) n others fits may e =
    let first : piece_record q ≡ piece_record p = cc in
    let behind : map piece_record all ++ end_record n ∷ [] ≡ map piece_record pieces ++ others = cc in
    let rest = begin pieces all n others fits.1 may.1 behind in
    (rest.0, ap (λ x. x ∷ all) (same-piece q p may.0 fits.0 first) ∙ ap (λ ps. p ∷ ps) rest.1)

module _ (number : ℕ) (first : Passing) (reading : SnapshotReading) (moment last : Option ℕ) (pieces all : List Piece) (bytes : List ℕ) (known : first.known ≡ Some bytes) where
  -- of those that are written
  pub first-read : HasRead number first reading moment pieces → HasPieces number bytes last all → (more : List Piece) × (all ≡ pieces ++ more)
  first-read has is =
      let done = front_records number moment pieces in
      let rest = others_behind first reading.source reading.held done (all_records number last all) has.taken (gives_all first number bytes last all known is) in
      let tail : map piece_record all ++ end_record (length all) ∷ [] ≡ map piece_record pieces ++ rest.0 = cc (rest.1) in
      begin pieces all (length all) rest.0 has.fits is.fits tail

  -- all of them, at the end
  pub all-read : HasReadAll number first reading moment pieces → HasPieces number bytes moment pieces
  all-read end = subst (λ b. HasPieces number b moment pieces) (read-whole first bytes reading.source end.0 known end.1 end.2) end.3

  -- and no others were written
  pub same-pieces : HasReadAll number first reading moment pieces → HasPieces number bytes last all → pieces ≡ all
  same-pieces end is =
      (pieces_whole number number bytes [] moment last pieces all (all-read end) (subst (λ b. HasPieces number b last all) (sym (append-nil bytes)) is)).2
