-- Snapshots by their pieces.
use Rattle.std.proofs.Common.{◌≡◌, ℕ, List, [], ◌∷◌, ◌++◌, map, length, decimal, codes, Option, Some, None, refl, sym, ap, ◌∙◌, subst, arith, append_assoc}
use Rattle.std.proofs.lemmas.Fmt.{decimal_injective}
use Rattle.std.specs.List.{AllByRecursion}
use Rattle.xs_resp.specs.Grammar.{spelling}
use Rattle.xs_tape.specs.Records.{CanBeSpelled, spellings}
use Rattle.xs_tape.proofs.Firsts.{same-front}
use Rattle.xs_replay.specs.After.{ServerState}
use Rattle.xs_replay.specs.Pieces.{Piece, pieces_of}
use Rattle.xs_replay.specs.SnapshotWords.{kind_of, values_of, words_of_piece, Fits}
use Rattle.xs_replay.specs.PieceReading.{piece_of_words}
use Rattle.xs_replay.specs.Snapshot.{moment_words, header_values, snapshot_header, piece_record, IsSnapshotFile}
use Rattle.xs_replay.proofs.Logs.{same-plain}
use Rattle.xs_replay.proofs.SnapshotsRead.{piece-back}
use Rattle.xs_log.specs.SnapshotPieces.{end_record, all_records, MomentFits, HasPieces}
use Rattle.xs_log.proofs.SnapshotPlaces.{no_end}

abbrev Requests : Type 0
Requests = List (List (List ℕ))

pub file_has : (number : ℕ) (bytes : List ℕ) (state : ServerState) → IsSnapshotFile number bytes state → HasPieces number bytes state.moment (pieces_of state.content)
file_has number bytes state is = record {
  bytes_are = is.bytes_are ∙ ap spellings is.is_snapshot.stands;
  spelled = subst (AllByRecursion CanBeSpelled) is.is_snapshot.stands is.spelled;
  number_small = is.is_snapshot.number_small;
  moment_fits = is.is_snapshot.moment_small;
  fits = is.is_snapshot.fits;
}

pub file_is : (number : ℕ) (bytes : List ℕ) (state : ServerState) → HasPieces number bytes state.moment (pieces_of state.content) → IsSnapshotFile number bytes state
file_is number bytes state has = record {
  requests = all_records number state.moment (pieces_of state.content);
  bytes_are = has.bytes_are;
  spelled = has.spelled;
  is_snapshot = record { stands = refl; number_small = has.number_small; moment_small = has.moment_fits; fits = has.fits };
}

-- requests whose text begins with that of others begin with them
begin : (ones others : Requests) (more : List ℕ) → AllByRecursion CanBeSpelled ones → AllByRecursion CanBeSpelled others → spellings ones ++ more ≡ spellings others → (rest : Requests) × (others ≡ ones ++ rest) × (more ≡ spellings rest)
begin [] others more can may e = (others, refl, e)
begin (one ∷ ones) [] more can may e = absurd (cc)
begin (one ∷ ones) (other ∷ others) more can may e =
    let same = same-front one other (spellings ones ++ more) (spellings others) can.0 may.0 (sym (append_assoc (spelling one) (spellings ones) more) ∙ e) in
    let rest = begin ones others more can.1 may.1 same.1 in
    (rest.0, ap (λ o. o ∷ others) (sym same.0) ∙ ap (λ os. one ∷ os) rest.1, rest.2)

pub same-piece : (one other : Piece) → Fits one → Fits other → piece_record one ≡ piece_record other → one ≡ other
same-piece one other fits may e =
    let same = same-plain (kind_of one) (kind_of other) (values_of one) (values_of other) e in
    let words : words_of_piece one ≡ words_of_piece other = ap (λ k. k ∷ values_of one) same.0 ∙ ap (λ v. kind_of other ∷ v) same.1 in
    let some : Some one ≡ Some other = sym (piece-back one fits) ∙ ap piece_of_words words ∙ piece-back other may in
    cc

-- pieces up to an end are the same pieces, and nothing follows the end
same-pieces : (ones others : List Piece) (n m : ℕ) (rest : Requests) → AllByRecursion Fits ones → AllByRecursion Fits others → map piece_record others ++ end_record m ∷ [] ≡ map piece_record ones ++ end_record n ∷ rest
    → (ones ≡ others) × (rest ≡ [])
same-pieces [] [] n m rest fits may e = (refl, cc)
same-pieces [] (q ∷ others) n m rest fits may e =
    let first : piece_record q ≡ end_record n = cc in
    absurd (no_end q n first)
same-pieces (p ∷ ones) [] n m rest fits may e =
    let first : piece_record p ≡ end_record m = cc in
    absurd (no_end p m first)
same-pieces (p ∷ ones) (q ∷ others) n m rest fits may e =
    let first : piece_record p ≡ piece_record q = cc in
    let behind : map piece_record others ++ end_record m ∷ [] ≡ map piece_record ones ++ end_record n ∷ rest = cc in
    let more = same-pieces ones others n m rest fits.1 may.1 behind in
    (ap (λ x. x ∷ ones) (same-piece p q fits.0 may.0 first) ∙ ap (λ qs. q ∷ qs) more.0, more.1)

same-moment : (one other : Option ℕ) → MomentFits one → MomentFits other → moment_words one ≡ moment_words other → one ≡ other
same-moment None None small less e = refl
same-moment None (Some m) small less e = absurd (cc)
same-moment (Some n) None small less e = absurd (cc)
same-moment (Some n) (Some m) small less e =
    let texts : decimal n ≡ decimal m = cc in
    ap (λ k. Some k) (decimal_injective n m (omega (arith, small)) (omega (arith, less)) texts)

pub pieces_whole : (number other : ℕ) (bytes more : List ℕ) (moment last : Option ℕ) (pieces all : List Piece) → HasPieces number bytes moment pieces → HasPieces other (bytes ++ more) last all
    → (number ≡ other) × (moment ≡ last) × (pieces ≡ all) × (more ≡ [])
pieces_whole number other bytes more moment last pieces all is may =
    let rest = begin (all_records number moment pieces) (all_records other last all) more is.spelled may.spelled (ap (λ b. b ++ more) (sym is.bytes_are) ∙ may.bytes_are) in
    let header : snapshot_header number moment ≡ snapshot_header other last = cc (rest.1) in
    let tail : map piece_record all ++ end_record (length all) ∷ [] ≡ (map piece_record pieces ++ end_record (length pieces) ∷ []) ++ rest.0 = cc (rest.1) in
    let words = (same-plain (codes "xs-snapshot") (codes "xs-snapshot") (header_values number moment) (header_values other last) header).1 in
    let number_text : decimal number ≡ decimal other = cc in
    let moment_text : moment_words moment ≡ moment_words last = cc in
    let records = same-pieces pieces all (length pieces) (length all) rest.0 is.fits may.fits (tail ∙ append_assoc (map piece_record pieces) (end_record (length pieces) ∷ []) rest.0) in (
      decimal_injective number other is.number_small may.number_small number_text,
      same-moment moment last is.moment_fits may.moment_fits moment_text,
      records.0,
      rest.2 ∙ ap spellings records.1,
    )
