-- What is written for a content is read as that content, and no snapshot is a beginning of another.
use Rattle.std.proofs.Common.{◌≡◌, ◌≢◌, ℕ, ◌+◌, ◌*◌, ◌/◌, ◌%◌, ◌^◌, ◌<◌, nat_lt, false, List, [], ◌∷◌, ◌++◌, map, length, decimal, codes, bytes_eq}
use Rattle.std.proofs.Common.{Option, Some, None, option_and_then, IfSome, refl, sym, ap, ◌∙◌, subst, arith, append_assoc}
use Rattle.std.proofs.lemmas.Bool.{false≢true, cond-true, lt-ltb}
use Rattle.std.proofs.lemmas.Fmt.{decimal_injective}
use Rattle.std.proofs.lemmas.List.{append-nil}
use Rattle.std.specs.List.{AllByRecursion}
use Rattle.std.specs.Option.{option_map}
use Rattle.xs_bytes.specs.Number.{natural_of}
use Rattle.xs_stream.specs.declared.id.Id.{Id}
use Rattle.xs_stream.specs.declared.field.Field.{Field}
use Rattle.xs_stream.specs.ConsistentStream.{IsId}
use Rattle.xs_stream.specs.IdText.{id_of_parts}
use Rattle.xs_keys.specs.Content.{Content}
use Rattle.xs_resp.specs.Grammar.{spelling}
use Rattle.xs_tape.specs.Crash.{HasNoZero, before_zero, CrashLeaves}
use Rattle.xs_tape.specs.Records.{CanBeSpelled, CanBeLogged, record_words, spellings}
use Rattle.xs_tape.proofs.Crashes.{before_zero-more, before_zero-written}
use Rattle.xs_tape.proofs.Firsts.{same-front}
use Rattle.xs_tape.proofs.Naturals.{natural_back}
use Rattle.xs_tape.proofs.Zeros.{record-logged, spellings-no-zero}
use Rattle.xs_replay.specs.After.{ServerState}
use Rattle.xs_replay.specs.Pieces.{Piece, of_key, of_entry, of_group, of_consumer, of_row, pieces_of, content_of}
use Rattle.xs_replay.specs.SnapshotWords.{field_words, kind_of, values_of, words_of_piece, Fits}
use Rattle.xs_replay.specs.PieceReading.{id_of_words, wide_of_parts, wide_of_words, small_of_word, fields_of_words, key_of_parts, entry_of_parts, row_of_parts, piece_of_words}
use Rattle.xs_replay.specs.Snapshot.{moment_words, header_values, snapshot_header, piece_record, snapshot_end, piece_records, IsSnapshot, IsSnapshotFile}
use Rattle.xs_replay.proofs.Logs.{same-plain}
use Rattle.xs_replay.proofs.PiecesRead.{content-read}
use Rattle.xs_replay.proofs.Folders.{same-state}

-- ---- words of a piece

id-back : (id : Id) → IsId id → id_of_words (decimal id.ms) (decimal id.seq) ≡ Some id
id-back id is = ap (λ m. id_of_parts m (natural_of (decimal id.seq))) (natural_back id.ms is.0) ∙ ap (id_of_parts (Some id.ms)) (natural_back id.seq is.1)

wide-back : (n : ℕ) → n < 2 ^ 128 → wide_of_words (decimal (n / 2 ^ 64)) (decimal (n % 2 ^ 64)) ≡ Some n
wide-back n small =
    let whole : n / 2 ^ 64 * 2 ^ 64 + n % 2 ^ 64 ≡ n = omega arith in
    ap (λ h. wide_of_parts h (natural_of (decimal (n % 2 ^ 64)))) (natural_back (n / 2 ^ 64) (omega (arith, small)))
    ∙ ap (wide_of_parts (Some (n / 2 ^ 64))) (natural_back (n % 2 ^ 64) (omega arith))
    ∙ ap (λ m. Some m) whole

small-back : (n : ℕ) → n < 2 ^ 63 → small_of_word (decimal n) ≡ Some n
small-back n small =
    ap (option_and_then _) (natural_back n (omega (arith, small))) ∙ cond-true (nat_lt n (2 ^ 63)) (Some n) None (lt-ltb n (2 ^ 63) small)

fields-back : (fields : List Field) → fields_of_words (field_words fields) ≡ Some fields
fields-back [] = refl
fields-back (field ∷ fields) = ap (option_map (λ fs. field ∷ fs)) (fields-back fields)

pub piece-back : (piece : Piece) → Fits piece → piece_of_words (words_of_piece piece) ≡ Some piece
piece-back (of_key name top added deleted) fits =
    ap (λ t. key_of_parts name t (wide_of_words (decimal (added / 2 ^ 64)) (decimal (added % 2 ^ 64))) (id_of_words (decimal deleted.ms) (decimal deleted.seq))) (id-back top fits.0)
    ∙ ap (λ a. key_of_parts name (Some top) a (id_of_words (decimal deleted.ms) (decimal deleted.seq))) (wide-back added fits.1)
    ∙ ap (key_of_parts name (Some top) (Some added)) (id-back deleted fits.2)
piece-back (of_entry id fields) fits =
    ap (λ i. entry_of_parts i (fields_of_words (field_words fields))) (id-back id fits) ∙ ap (entry_of_parts (Some id)) (fields-back fields)
piece-back (of_group name cursor) fits = ap (option_map (of_group name)) (id-back cursor fits)
piece-back (of_consumer name moment) fits = ap (option_map (of_consumer name)) (small-back moment fits)
piece-back (of_row id row) fits =
    ap (λ i. row_of_parts i row.consumer (small_of_word (decimal row.time)) (small_of_word (decimal row.count))) (id-back id fits.0)
    ∙ ap (λ t. row_of_parts (Some id) row.consumer t (small_of_word (decimal row.count))) (small-back row.time fits.1)
    ∙ ap (row_of_parts (Some id) row.consumer (Some row.time)) (small-back row.count fits.2)

-- ---- records

same-piece : (one other : Piece) → Fits one → Fits other → piece_record one ≡ piece_record other → one ≡ other
same-piece one other fits may e =
    let same = same-plain (kind_of one) (kind_of other) (values_of one) (values_of other) e in
    let words : words_of_piece one ≡ words_of_piece other = ap (λ k. k ∷ values_of one) same.0 ∙ ap (λ v. kind_of other ∷ v) same.1 in
    let some : Some one ≡ Some other = sym (piece-back one fits) ∙ ap piece_of_words words ∙ piece-back other may in
    cc

is-no-end : (piece : Piece) → bytes_eq (kind_of piece) (codes "END") ≡ false
is-no-end (of_key name top added deleted) = refl
is-no-end (of_entry id fields) = refl
is-no-end (of_group name cursor) = refl
is-no-end (of_consumer name moment) = refl
is-no-end (of_row id row) = refl

no-end : (piece : Piece) (values : List (List ℕ)) → piece_record piece ≢ record_words (codes "END") values
no-end piece values e =
    let same = same-plain (kind_of piece) (codes "END") (values_of piece) values e in
    false≢true (sym (is-no-end piece) ∙ ap (λ k. bytes_eq k (codes "END")) same.0)

-- pieces up to an end are the same pieces
same-pieces : (ones others : List Piece) (end last : List (List ℕ)) (rest : List (List (List ℕ))) → AllByRecursion Fits ones → AllByRecursion Fits others
    → map piece_record ones ++ record_words (codes "END") end ∷ rest ≡ map piece_record others ++ record_words (codes "END") last ∷ [] → (ones ≡ others) × (rest ≡ [])
same-pieces [] [] end last rest fits may e = (refl, cc)
same-pieces [] (q ∷ others) end last rest fits may e =
    let first : piece_record q ≡ record_words (codes "END") end = cc in
    absurd (no-end q end first)
same-pieces (p ∷ ones) [] end last rest fits may e =
    let first : piece_record p ≡ record_words (codes "END") last = cc in
    absurd (no-end p last first)
same-pieces (p ∷ ones) (q ∷ others) end last rest fits may e =
    let first : piece_record p ≡ piece_record q = cc in
    let behind : map piece_record ones ++ record_words (codes "END") end ∷ rest ≡ map piece_record others ++ record_words (codes "END") last ∷ [] = cc in
    let more = same-pieces ones others end last rest fits.1 may.1 behind in
    (ap (λ x. x ∷ ones) (same-piece p q fits.0 may.0 first) ∙ ap (λ qs. q ∷ qs) more.0, more.1)

same-moment : (one other : Option ℕ) → IfSome one (λ m. m < 2 ^ 63) → IfSome other (λ m. m < 2 ^ 63) → moment_words one ≡ moment_words other → one ≡ other
same-moment None None small less e = refl
same-moment None (Some m) small less e = absurd (cc)
same-moment (Some n) None small less e = absurd (cc)
same-moment (Some n) (Some m) small less e =
    let texts : decimal n ≡ decimal m = cc in
    ap (λ k. Some k) (decimal_injective n m (omega (arith, small)) (omega (arith, less)) texts)

-- ---- snapshots

-- different contents have different pieces
same-content : (one other : Content) → pieces_of one ≡ pieces_of other → one ≡ other
same-content one other e = sym (content-read one) ∙ ap content_of e ∙ content-read other

pub record IsSame (number other : ℕ) (state found : ServerState) (more : List (List (List ℕ))) : Type 0 where
  pub numbers : number ≡ other
  pub states : state ≡ found
  pub nothing : more ≡ []

same-snapshot : (number other : ℕ) (requests more : List (List (List ℕ))) (state found : ServerState) → IsSnapshot number requests state → IsSnapshot other (requests ++ more) found
    → IsSame number other state found more
same-snapshot number other requests more state found is may =
    let all : snapshot_header number state.moment ∷ (piece_records (pieces_of state.content) ++ more) ≡ snapshot_header other found.moment ∷ piece_records (pieces_of found.content)
    = ap (λ r. r ++ more) (sym is.stands) ∙ may.stands in
    let header : snapshot_header number state.moment ≡ snapshot_header other found.moment = cc in
    let rest : piece_records (pieces_of state.content) ++ more ≡ piece_records (pieces_of found.content) = cc in
    let words = (same-plain (codes "xs-snapshot") (codes "xs-snapshot") (header_values number state.moment) (header_values other found.moment) header).1 in
    let number_text : decimal number ≡ decimal other = cc in
    let moment_text : moment_words state.moment ≡ moment_words found.moment = cc in
    let records = same-pieces (pieces_of state.content) (pieces_of found.content) (decimal (length (pieces_of state.content)) ∷ []) (decimal (length (pieces_of found.content)) ∷ []) more is.fits may.fits
    (sym (append_assoc (map piece_record (pieces_of state.content)) (snapshot_end (pieces_of state.content) ∷ []) more) ∙ rest) in
    record {
      numbers = decimal_injective number other is.number_small may.number_small number_text;
      states = same-state state found (same-content state.content found.content records.0) (same-moment state.moment found.moment is.moment_small may.moment_small moment_text);
      nothing = records.1;
    }

-- requests whose text begins with that of others begin with them
begin : (ones others : List (List (List ℕ))) (more : List ℕ) → AllByRecursion CanBeSpelled ones → AllByRecursion CanBeSpelled others → spellings ones ++ more ≡ spellings others
    → (rest : List (List (List ℕ))) × (others ≡ ones ++ rest) × (more ≡ spellings rest)
begin [] others more can may e = (others, refl, e)
begin (one ∷ ones) [] more can may e = absurd (cc)
begin (one ∷ ones) (other ∷ others) more can may e =
    let same = same-front one other (spellings ones ++ more) (spellings others) can.0 may.0 (sym (append_assoc (spelling one) (spellings ones) more) ∙ e) in
    let rest = begin ones others more can.1 may.1 same.1 in
    (rest.0, ap (λ o. o ∷ others) (sym same.0) ∙ ap (λ os. one ∷ os) rest.1, rest.2)

pub same-file : (number other : ℕ) (bytes more : List ℕ) (state found : ServerState) → IsSnapshotFile number bytes state → IsSnapshotFile other (bytes ++ more) found
    → (number ≡ other) × (state ≡ found) × (more ≡ [])
same-file number other bytes more state found is may =
    let rest = begin is.requests may.requests more is.spelled may.spelled (ap (λ b. b ++ more) (sym is.bytes_are) ∙ may.bytes_are) in
    let same = same-snapshot number other is.requests rest.0 state found is.is_snapshot (subst (λ rs. IsSnapshot other rs found) rest.1 may.is_snapshot) in
    (same.numbers, same.states, rest.2 ∙ ap spellings same.nothing)

-- ---- crashes

pieces-logged : (pieces : List Piece) (end : List (List ℕ)) → AllByRecursion CanBeSpelled (map piece_record pieces ++ record_words (codes "END") end ∷ [])
    → AllByRecursion CanBeLogged (map piece_record pieces ++ record_words (codes "END") end ∷ [])
pieces-logged [] end can = (record-logged (codes "END") end can.0, tt)
pieces-logged (p ∷ pieces) end can = (record-logged (kind_of p) (values_of p) can.0, pieces-logged pieces end can.1)

-- a snapshot has no zero byte
no-zero : (number : ℕ) (bytes : List ℕ) (state : ServerState) → IsSnapshotFile number bytes state → HasNoZero bytes
no-zero number bytes state is =
    let pieces = pieces_of state.content in
    let can = subst (AllByRecursion CanBeSpelled) is.is_snapshot.stands is.spelled in
    let logged : AllByRecursion CanBeLogged (snapshot_header number state.moment ∷ piece_records pieces) = (record-logged (codes "xs-snapshot") (header_values number state.moment) can.0, pieces-logged pieces (decimal (length pieces) ∷ []) can.1) in
    subst HasNoZero (sym (is.bytes_are ∙ ap spellings is.is_snapshot.stands)) (spellings-no-zero (snapshot_header number state.moment ∷ piece_records pieces) logged)

before-none : (file : List ℕ) → HasNoZero file → before_zero file ≡ file
before-none [] none = refl
before-none (byte ∷ file) none = before_zero-more byte file none.0 ∙ ap (λ f. byte ∷ f) (before-none file none.1)

-- a crash leaves all of a snapshot, or none of it
pub crash-whole : (number other kept : ℕ) (bytes file : List ℕ) (state found : ServerState) → IsSnapshotFile number bytes state → CrashLeaves kept bytes file → IsSnapshotFile other file found → file ≡ bytes
crash-whole number other kept bytes file state found is leaves may =
    let rest = before_zero-written bytes file leaves.others in
    let written : bytes ≡ file ++ rest.0 = rest.1 ∙ ap (λ f. f ++ rest.0) (before-none file (no-zero other file found may)) in
    let same = same-file other number file rest.0 found state may (subst (λ b. IsSnapshotFile number b state) written is) in
    sym (written ∙ ap (λ r. file ++ r) same.2 ∙ append-nil file)
