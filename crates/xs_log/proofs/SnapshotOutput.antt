-- The parts of a snapshot that were put.
use Rattle.std.proofs.Common.{◌≡◌, ℕ, ◌+◌, ◌^◌, ◌<◌, false, List, [], ◌∷◌, ◌++◌, length, decimal, codes, Option, Some, None, refl, sym, ap, ◌∙◌, subst, arith, length-append}
use Rattle.std.proofs.lemmas.List.{append-nil, map-append}
use Rattle.std.specs.Prelude.{Bool, Result, Ok, Err, OnOk}
use Rattle.std.specs.List.{AllByRecursion}
use Rattle.xs_resp.specs.Grammar.{spelling}
use Rattle.xs_tape.specs.Records.{CanBeSpelled, record_words, record_text, spellings}
use Rattle.xs_tape.specs.Tape.{TapeBytes}
use Rattle.xs_tape.specs.Writing.{Writing, IsOnTape, MayBeOnTape, Has, Puts}
use Rattle.xs_replay.specs.Pieces.{Piece}
use Rattle.xs_replay.specs.SnapshotWords.{kind_of, values_of, Fits}
use Rattle.xs_replay.specs.Snapshot.{header_values, snapshot_header, piece_record}
use Rattle.xs_log.specs.SnapshotPieces.{end_record, front_records, all_records, MomentFits, HasPieces}
use Rattle.xs_log.specs.SnapshotWriting.{IsEmptyFile, HasPut, KeepsPieces}
use Rattle.xs_log.proofs.Steps.{spellings-more, all-more}

empty-on : (closed : List (List ℕ)) (holds : Option TapeBytes) → IsEmptyFile closed holds → MayBeOnTape false [] holds closed [] 0
empty-on closed None is = tt
empty-on closed (Some tape) is = subst (λ (t : TapeBytes). IsOnTape false [] t closed [] 0) (sym is) (record { closed_is = refl; text_is = refl; kept_is = omega arith; within = omega arith })

-- an empty file has nothing
pub empty_has : (closed : List (List ℕ)) (writing : Writing) (broken : Bool) (holds : Option TapeBytes) → writing ≡ record { broken = broken; holds = holds; pending = [] } → broken ≡ false → IsEmptyFile closed holds → Has writing closed [] 0
empty_has closed writing broken holds e sound is =
    subst (λ (w : Writing). Has w closed [] 0) (sym (e ∙ ap (λ b. record { broken = b; holds = holds; pending = [] }) sound)) (empty-on closed holds is)

-- a header is put
pub header_put : {E : Type 0} (result : Result (Unit {0}) E) (number : ℕ) (moment : Option ℕ) (closed : List (List ℕ)) (old new : Writing) (words : List (List ℕ)) → number < 2 ^ 64 → MomentFits moment → words ≡ header_values number moment
    → OnOk result (Puts old new (record_text (codes "xs-snapshot") words)) → OnOk result (CanBeSpelled (record_words (codes "xs-snapshot") words)) → Has old closed [] 0
    → OnOk result (HasPut number closed (record { writing = new; count = 0 }) moment [])
header_put (Err fault) number moment closed old new words small fits e puts can has = tt
header_put (Ok done) number moment closed old new words small fits e puts can has =
    let there : Puts old new (record_text (codes "xs-snapshot") (header_values number moment)) = subst (λ ws. Puts old new (record_text (codes "xs-snapshot") ws)) e puts in
    record {
      on_tape = subst (λ t. Has new closed t 0) (sym (append-nil (spelling (snapshot_header number moment)))) (there.puts closed [] 0 has);
      spelled = (subst (λ ws. CanBeSpelled (record_words (codes "xs-snapshot") ws)) e can, tt);
      count_is = refl;
      number_small = small;
      moment_fits = fits;
      fits = tt;
    }

pub fits-more : (pieces : List Piece) (piece : Piece) → AllByRecursion Fits pieces → Fits piece → AllByRecursion Fits (pieces ++ piece ∷ [])
fits-more [] piece all one = (one, tt)
fits-more (p ∷ pieces) piece all one = (all.0, fits-more pieces piece all.1 one)

-- the records of one piece more
pub front-more : (number : ℕ) (moment : Option ℕ) (pieces : List Piece) (piece : Piece) → front_records number moment (pieces ++ piece ∷ []) ≡ front_records number moment pieces ++ piece_record piece ∷ []
front-more number moment pieces piece = ap (λ rs. snapshot_header number moment ∷ rs) (map-append piece_record pieces (piece ∷ []))

-- a piece is put
pub piece_put : (number : ℕ) (closed : List (List ℕ)) (moment : Option ℕ) (pieces : List Piece) (piece : Piece) (old between new : Writing) (count more : ℕ) (kind : List ℕ) (values : List (List ℕ))
    → HasPut number closed (record { writing = old; count = count }) moment pieces → kind ≡ kind_of piece → values ≡ values_of piece → Fits piece → Puts old between (record_text kind values) → CanBeSpelled (record_words kind values)
    → ((closed : List (List ℕ)) (text : List ℕ) → Has between closed text 0 → Has new closed text 0) → more ≡ count + 1 → HasPut number closed (record { writing = new; count = more }) moment (pieces ++ piece ∷ [])
piece_put number closed moment pieces piece old between new count more kind values has k v fits puts can keeps size =
    let words : record_words kind values ≡ piece_record piece = ap (λ t. record_words t values) k ∙ ap (λ ws. record_words (kind_of piece) ws) v in
    let records = front_records number moment pieces in
    let all = front-more number moment pieces piece in
    let text : spellings records ++ record_text kind values ≡ spellings (front_records number moment (pieces ++ piece ∷ []))
    = ap (λ ws. spellings records ++ spelling ws) words ∙ sym (spellings-more records (piece_record piece)) ∙ ap spellings (sym all) in
    record {
      on_tape = subst (λ t. Has new closed t 0) text (keeps closed (spellings records ++ record_text kind values) (puts.puts closed (spellings records) 0 has.on_tape));
      spelled = subst (AllByRecursion CanBeSpelled) (sym all) (all-more records (piece_record piece) has.spelled (subst CanBeSpelled words can));
      count_is = size ∙ ap (λ n. n + 1) has.count_is ∙ sym (length-append pieces (piece ∷ []));
      number_small = has.number_small;
      moment_fits = has.moment_fits;
      fits = fits-more pieces piece has.fits fits;
    }

kept-on : (closed : List (List ℕ)) (holds : Option TapeBytes) (number : ℕ) (moment : Option ℕ) (pieces : List Piece) → HasPieces number (spellings (all_records number moment pieces)) moment pieces
    → MayBeOnTape false [] holds closed (spellings (all_records number moment pieces)) (length (spellings (all_records number moment pieces))) → KeepsPieces number closed holds moment pieces
kept-on closed None number moment pieces is has = tt
kept-on closed (Some tape) number moment pieces is has =
    let written : tape.written ≡ spellings (all_records number moment pieces) = sym (append-nil tape.written) ∙ has.text_is in
    (has.closed_is, subst (λ b. HasPieces number b moment pieces) (sym written) is, omega (arith, has.kept_is, has.within, ap length written))

-- an end is put, and all is kept
pub end_put : (number : ℕ) (closed : List (List ℕ)) (moment : Option ℕ) (pieces : List Piece) (old between new : Writing) (count : ℕ) (word : List ℕ) → HasPut number closed (record { writing = old; count = count }) moment pieces
    → word ≡ decimal count → Puts old between (record_text (codes "END") (word ∷ [])) → CanBeSpelled (record_words (codes "END") (word ∷ []))
    → ((closed : List (List ℕ)) (text : List ℕ) (sure : ℕ) → Has between closed text sure → Has new closed text (length text)) → new.broken ≡ false → new.pending ≡ [] → KeepsPieces number closed new.holds moment pieces
end_put number closed moment pieces old between new count word has w puts can keeps sound none =
    let words : record_words (codes "END") (word ∷ []) ≡ end_record (length pieces) = ap (λ t. record_words (codes "END") (t ∷ [])) (w ∙ ap decimal has.count_is) in
    let records = front_records number moment pieces in
    let all = all_records number moment pieces in
    let text : spellings records ++ record_text (codes "END") (word ∷ []) ≡ spellings all = ap (λ ws. spellings records ++ spelling ws) words ∙ sym (spellings-more records (end_record (length pieces))) in
    let kept : Has new closed (spellings all) (length (spellings all))
    = subst (λ t. Has new closed t (length t)) text (keeps closed (spellings records ++ record_text (codes "END") (word ∷ [])) 0 (puts.puts closed (spellings records) 0 has.on_tape)) in
    let here = subst (λ b. MayBeOnTape b new.pending new.holds closed (spellings all) (length (spellings all))) sound kept in
    kept-on closed new.holds number moment pieces
    (record { bytes_are = refl; spelled = all-more records (end_record (length pieces)) has.spelled (subst CanBeSpelled words can); number_small = has.number_small; moment_fits = has.moment_fits; fits = has.fits })
    (subst (λ p. MayBeOnTape false p new.holds closed (spellings all) (length (spellings all))) none here)
