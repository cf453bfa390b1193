-- What is read of a snapshot.
use Rattle.std.proofs.Common.{◌≡◌, ℕ, ◌+◌, List, [], ◌∷◌, ◌++◌, map, length, Option, Some, sym, ap, ◌∙◌, subst, arith, append_assoc, length-append}
use Rattle.std.proofs.lemmas.List.{append-nil}
use Rattle.std.specs.List.{AllByRecursion}
use Rattle.xs_io.specs.Passing.{Passing, Consumes, IsAtEnd}
use Rattle.xs_resp.specs.HeldBytes.{Held}
use Rattle.xs_tape.specs.Records.{CanBeSpelled, spellings}
use Rattle.xs_replay.specs.Pieces.{Piece}
use Rattle.xs_replay.specs.SnapshotWords.{Fits}
use Rattle.xs_replay.specs.Snapshot.{piece_record}
use Rattle.xs_log.specs.SnapshotPieces.{end_record, front_records, all_records, HasPieces}
use Rattle.xs_log.specs.SnapshotReading.{HasTaken, Gives, MayStandBehind, SnapshotReading, HasRead, HasReadAll}
use Rattle.xs_log.proofs.SnapshotInput.{others_behind}
use Rattle.xs_log.proofs.SnapshotPlaces.{place-of, end_last}
use Rattle.xs_log.proofs.SnapshotOutput.{front-more, fits-more}

-- a source of a snapshot gives its records
pub gives_all : (first : Passing) (number : ℕ) (bytes : List ℕ) (moment : Option ℕ) (pieces : List Piece) → first.known ≡ Some bytes → HasPieces number bytes moment pieces → Gives first (all_records number moment pieces)
gives_all first number bytes moment pieces known is = record { known_is = known ∙ ap (λ b. Some b) is.bytes_are; spelled = is.spelled }

-- after pieces it goes on
pub record GoesOn (first : Passing) (done : List (List (List ℕ))) (count : ℕ) : Type 0 where
  pub words : List (List ℕ)
  pub others : List (List (List ℕ))
  pub gives : Gives first (done ++ words ∷ others)
  pub may : MayStandBehind count words

pub goes_on : (number count : ℕ) (first now : Passing) (held : Held) (moment last : Option ℕ) (pieces all : List Piece) → HasTaken first now held (front_records number moment pieces) → Gives first (all_records number last all)
    → AllByRecursion Fits all → count ≡ length pieces → GoesOn first (front_records number moment pieces) count
goes_on number count first now held moment last pieces all taken gives fits size =
    let done = front_records number moment pieces in
    let rest = others_behind first now held done (all_records number last all) taken gives in
    let tail : map piece_record all ++ end_record (length all) ∷ [] ≡ map piece_record pieces ++ rest.0 = cc (rest.1) in
    let place = place-of pieces all rest.0 (length all) count fits (omega (arith, size)) tail in
    record { words = place.words; others = place.more; gives = subst (Gives first) (rest.1 ∙ ap (λ o. done ++ o) place.split) gives; may = place.may }

-- after the end it doesn't
pub ends_there : (number count : ℕ) (first now : Passing) (held : Held) (moment last : Option ℕ) (pieces all : List Piece) → HasTaken first now held (front_records number moment pieces ++ end_record count ∷ []) → Gives first (all_records number last all)
    → Gives first (front_records number moment pieces ++ end_record count ∷ [])
ends_there number count first now held moment last pieces all taken gives =
    let done = front_records number moment pieces ++ end_record count ∷ [] in
    let rest = others_behind first now held done (all_records number last all) taken gives in
    let tail : map piece_record all ++ end_record (length all) ∷ [] ≡ (map piece_record pieces ++ end_record count ∷ []) ++ rest.0 = cc (rest.1) in
    let none = end_last pieces all rest.0 (length all) count (tail ∙ append_assoc (map piece_record pieces) (end_record count ∷ []) rest.0) in
    subst (Gives first) (rest.1 ∙ ap (λ o. done ++ o) none ∙ append-nil done) gives

-- one piece more was read
pub read_piece_more : (number count more : ℕ) (first now : Passing) (old : SnapshotReading) (held : Held) (moment : Option ℕ) (pieces : List Piece) (piece : Piece) → HasRead number first old moment pieces → count ≡ length pieces → more ≡ count + 1
    → HasTaken first now held (front_records number moment pieces ++ piece_record piece ∷ []) × Fits piece → HasRead number first (record { source = now; held = held; count = more }) moment (pieces ++ piece ∷ [])
read_piece_more number count more first now old held moment pieces piece has size next taken = record {
  taken = subst (HasTaken first now held) (sym (front-more number moment pieces piece)) taken.0;
  count_is = next ∙ ap (λ n. n + 1) size ∙ sym (length-append pieces (piece ∷ []));
  number_small = has.number_small;
  moment_fits = has.moment_fits;
  fits = fits-more pieces piece has.fits taken.1;
}

-- all was read
pub read_to_end : (number count : ℕ) (first now last : Passing) (old : SnapshotReading) (held after : Held) (moment : Option ℕ) (pieces : List Piece) → HasRead number first old moment pieces → count ≡ length pieces
    → HasTaken first now held (front_records number moment pieces ++ end_record count ∷ []) → Consumes first last (spellings (front_records number moment pieces ++ end_record count ∷ [])) × IsAtEnd last
    → HasReadAll number first (record { source = last; held = after; count = count }) moment pieces
read_to_end number count first now last old held after moment pieces has size taken end =
    let records : front_records number moment pieces ++ end_record count ∷ [] ≡ all_records number moment pieces = ap (λ n. front_records number moment pieces ++ end_record n ∷ []) size in (
      spellings (front_records number moment pieces ++ end_record count ∷ []),
      end.0,
      end.1,
      record {
        bytes_are = ap spellings records;
        spelled = subst (AllByRecursion CanBeSpelled) records taken.spelled;
        number_small = has.number_small;
        moment_fits = has.moment_fits;
        fits = has.fits;
      },
    )
