-- Requests that are taken from a source, one by one.
use Rattle.std.proofs.Common.{◌≡◌, ◌≢◌, ℕ, List, [], ◌∷◌, ◌++◌, length, drop, Some, None, Option, refl, sym, ap, ◌∙◌, subst, append_assoc}
use Rattle.std.proofs.lemmas.List.{append-nil, append_cancel_left, nil_from_length}
use Rattle.std.proofs.lemmas.Bool.{eqb-true}
use Rattle.std.specs.Prelude.{◌==◌, Bool, true, false, not, Result, Ok, Err, MatchOption}
use Rattle.std.specs.List.{AllByRecursion}
use Rattle.std.specs.Io.KnownBytes as std
use Rattle.xs_io.specs.Passing.{Passing, Consumes, IsAtEnd}
use Rattle.xs_io.proofs.Passing.{Consumes-nil, Consumes-trans}
use Rattle.xs_resp.specs.declared.read_fault.ReadFault.{ReadFault}
use Rattle.xs_resp.specs.Outcome.{Keeps}
use Rattle.xs_resp.specs.HeldBytes.{Held, with_piece, Ready, HasNext, front_of, holds_bytes}
use Rattle.xs_resp.specs.Reading.{Found, request}
use Rattle.xs_resp.specs.Grammar.{spelling}
use Rattle.xs_resp.proofs.Decisions.{request-keeps}
use Rattle.xs_tape.specs.Records.{CanBeSpelled, spellings}
use Rattle.xs_tape.proofs.Firsts.{spelling-found}
use Rattle.xs_replay.specs.SnapshotWords.{Fits}
use Rattle.xs_replay.specs.Snapshot.{piece_record}
use Rattle.xs_log.specs.declared.piece.Piece.{Piece}
use Rattle.xs_log.specs.PieceOf.{piece_of}
use Rattle.xs_log.specs.SnapshotPieces.{end_record}
use Rattle.xs_log.specs.SnapshotReading.{HasTaken, Gives}
use Rattle.xs_log.proofs.Crashed.{read-whole}
use Rattle.xs_log.proofs.Steps.{Behind, behind, no-fault-in, nothing-there, spelled-front, spellings-more, all-more, HasFront, front_words, ready_same, ready_fault}

abbrev Requests : Type 0
Requests = List (List (List ℕ))

pub taken_first : (first : Passing) (held : Held) → held ≡ Ok [] → HasTaken first first held []
taken_first first held e = record { seen = []; rest = []; consumes = Consumes-nil first; holds = e; seen_is = refl; spelled = tt }

pub taken_fed : (first now next : Passing) (held after : Held) (done : Requests) (got : List ℕ) → HasTaken first now held done → Consumes now next got → after ≡ with_piece held got → HasTaken first next after done
taken_fed first now next held after done got t consumes fed = record {
  seen = t.seen ++ got;
  rest = t.rest ++ got;
  consumes = Consumes-trans first now next t.seen got t.consumes consumes;
  holds = fed ∙ ap (λ h. with_piece h got) t.holds;
  seen_is = ap (λ b. b ++ got) t.seen_is ∙ append_assoc (spellings done) t.rest got;
  spelled = t.spelled;
}

-- a look that succeeds changes nothing
pub taken_same : (first now : Passing) (held next : Held) (done : Requests) (result : Result Bool ReadFault) (b : Bool) → HasTaken first now held done → Ready held result next → result ≡ Ok b → HasTaken first now next done
taken_same first now held next done result b t ready e = subst (λ h. HasTaken first now h done) (sym (ready_same held result next b ready e)) t

-- one request more
pub taken_more : (first now : Passing) (held next : Held) (done : Requests) (words : List (List ℕ)) (bytes : List ℕ) (found : Found) → HasTaken first now held done → held ≡ Ok bytes → request bytes ≡ Ok (Some found)
    → next ≡ Ok (drop found.end bytes) → found.words ≡ words → words ≢ [] → HasTaken first now next (done ++ words ∷ [])
taken_more first now held next done words bytes found t holds read left is some =
    let front = spelled-front bytes found read (λ none. some (sym is ∙ none)) in
    let same : t.rest ≡ bytes = cc (t.holds, holds) in
    let text = spellings-more done words in
    record {
      seen = t.seen;
      rest = drop found.end bytes;
      consumes = t.consumes;
      holds = left;
      seen_is = t.seen_is ∙ ap (λ b. spellings done ++ b) (same ∙ front.1 ∙ ap (λ w. spelling w ++ drop found.end bytes) is)
          ∙ sym (append_assoc (spellings done) (spelling words) (drop found.end bytes)) ∙ ap (λ b. b ++ drop found.end bytes) (sym text);
      spelled = all-more done words t.spelled (subst CanBeSpelled is front.0);
    }

-- ---- a source that has only requests

known-split : (old new : Option (List ℕ)) (bytes seen : List ℕ) → old ≡ Some bytes → std.Consumes old new seen → (more : List ℕ) × (seen ++ more ≡ bytes)
known-split None new bytes seen e consumes = absurd (cc (e))
known-split (Some xs) None bytes seen e consumes = absurd consumes
known-split (Some xs) (Some ys) bytes seen e consumes =
    let same : bytes ≡ xs = cc (e) in
    (ys, sym (same ∙ consumes))

-- what is left of them
record Left (first now : Passing) (held : Held) (done written : Requests) (t : HasTaken first now held done) : Type 0 where
  pub more : List ℕ
  pub behind : Behind done written t.rest more

left-of : (first now : Passing) (held : Held) (done written : Requests) (t : HasTaken first now held done) → Gives first written → Left first now held done written t
left-of first now held done written t gives =
    let split = known-split first.known now.known (spellings written) t.seen gives.known_is t.consumes.0 in
    record { more = split.0; behind = behind done written t.seen t.rest split.0 t.spelled gives.spelled t.seen_is split.1 }

-- the requests after those that were taken
pub others_behind : (first now : Passing) (held : Held) (done written : Requests) → HasTaken first now held done → Gives first written → (others : Requests) × (written ≡ done ++ others)
others_behind first now held done written t gives =
    let left = left-of first now held done written t gives in
    (left.behind.others, left.behind.split)

-- there is no fault
pub no_fault_taken : (first now : Passing) (held next : Held) (done written : Requests) (result : Result Bool ReadFault) (fault : ReadFault) → HasTaken first now held done → Gives first written → Ready held result next → result ≡ Err fault → ⊥
no_fault_taken first now held next done written result fault t gives ready e =
    let left = left-of first now held done written t gives in
    no-fault-in left.behind.others t.rest left.more left.behind.spelled left.behind.text (ready_fault held t.rest result next fault t.holds ready e)

at-front : (others : Requests) (rest more : List ℕ) (words : List (List ℕ)) (behind : Requests) (found : Found) → words ∷ behind ≡ others → AllByRecursion CanBeSpelled others → rest ++ more ≡ spellings others → request rest ≡ Ok (Some found)
    → found.words ≡ words
at-front [] rest more words behind found e can text read = absurd (cc (e))
at-front (w ∷ others) rest more words behind found e can text read =
    let later : request (rest ++ more) ≡ Ok (Some found) = subst (λ o. Keeps o (request (rest ++ more))) read (request-keeps rest more) in
    let there = spelling-found w (spellings others) can.0 in
    let one : Found = record { words = w; end = length (spelling w) } in
    let same : found ≡ one = cc (later, ap request text, there) in
    let first : w ≡ words = cc (e) in
    ap (λ (f : Found). f.words) same ∙ first

-- the request at the front is the next one
pub found_next : (first now : Passing) (held : Held) (done others : Requests) (words : List (List ℕ)) (bytes : List ℕ) (found : Found) → HasTaken first now held done → Gives first (done ++ words ∷ others) → held ≡ Ok bytes
    → request bytes ≡ Ok (Some found) → found.words ≡ words
found_next first now held done others words bytes found t gives holds read =
    let left = left-of first now held done (done ++ words ∷ others) t gives in
    let same : t.rest ≡ bytes = cc (t.holds, holds) in
    at-front left.behind.others t.rest left.more words others found (append_cancel_left done (words ∷ others) left.behind.others left.behind.split) left.behind.spelled left.behind.text (ap request same ∙ read)

none-left : (done written others : Requests) (rest : List ℕ) → written ≡ done ++ others → AllByRecursion CanBeSpelled others → rest ++ [] ≡ spellings others → request rest ≡ Ok None → (written ≡ done) × (rest ≡ [])
none-left done written [] rest split can text none = (split ∙ append-nil done, sym (append-nil rest) ∙ text)
none-left done written (w ∷ others) rest split can text none =
    let there = spelling-found w (spellings others) can.0 in
    absurd (cc (none, ap request (sym (append-nil rest) ∙ text), there))

-- at the end of a source all its requests were taken
pub all_taken : (first now : Passing) (held : Held) (done written : Requests) (rest : List ℕ) → HasTaken first now held done → Gives first written → IsAtEnd now → held ≡ Ok rest → request rest ≡ Ok None → (written ≡ done) × (rest ≡ [])
all_taken first now held done written rest t gives end holds none =
    let whole = read-whole first (spellings written) now t.seen gives.known_is t.consumes end in
    let left = behind done written t.seen t.rest [] t.spelled gives.spelled t.seen_is (append-nil t.seen ∙ whole) in
    let same : t.rest ≡ rest = cc (t.holds, holds) in
    let is = none-left done written left.others t.rest left.split left.spelled left.text (ap request same ∙ none) in
    (is.0, sym same ∙ is.1)

-- ---- the request at the front

pub next_front : (held : Held) → HasNext held → HasFront held
next_front held next = record { bytes = next.bytes; found = next.whole.0; holds = next.holds; read = next.whole.1 }

-- it is the next one
pub front_is : (first now : Passing) (held : Held) (done others : Requests) (words sent : List (List ℕ)) → HasTaken first now held done → Gives first (done ++ words ∷ others) → HasNext held → sent ≡ front_of held → sent ≡ words
front_is first now held done others words sent t gives next is =
    let front = next_front held next in
    is ∙ front_words held front.bytes front.found front.holds front.read ∙ found_next first now held done others words front.bytes front.found t gives front.holds front.read

-- it was dropped
pub front_taken : (first now : Passing) (held next : Held) (done : Requests) (words sent : List (List ℕ)) (bytes : List ℕ) (found : Found) → HasTaken first now held done → sent ≡ front_of held → held ≡ Ok bytes → request bytes ≡ Ok (Some found)
    → next ≡ Ok (drop found.end bytes) → sent ≡ words → words ≢ [] → HasTaken first now next (done ++ words ∷ [])
front_taken first now held next done words sent bytes found t is holds read left same some =
    taken_more first now held next done words bytes found t holds read left (sym (front_words held bytes found holds read) ∙ sym is ∙ same) some

-- the record of a piece or the end was taken
pub record_taken : (found : Option Piece) (first now : Passing) (next : Held) (done : Requests) (count : ℕ) (sent : List (List ℕ)) → ((words : List (List ℕ)) → sent ≡ words → words ≢ [] → HasTaken first now next (done ++ words ∷ []))
    → MatchOption found (sent ≡ end_record count) (λ piece. (sent ≡ piece_record (piece_of piece)) × Fits (piece_of piece))
    → MatchOption found (HasTaken first now next (done ++ end_record count ∷ [])) (λ piece. HasTaken first now next (done ++ piece_record (piece_of piece) ∷ []) × Fits (piece_of piece))
record_taken None first now next done count sent taken is = taken (end_record count) is (λ e. absurd (cc (e)))
record_taken (Some piece) first now next done count sent taken is = (taken (piece_record (piece_of piece)) is.0 (λ e. absurd (cc (e))), is.1)

-- ---- the end of a source

-- no request follows all of them
pub none_behind : (first now : Passing) (held : Held) (done : Requests) → HasTaken first now held done → Gives first done → HasNext held → ⊥
none_behind first now held done t gives next =
    let left = left-of first now held done done t gives in
    let none : [] ≡ left.behind.others = append_cancel_left done [] left.behind.others (append-nil done ∙ left.behind.split) in
    let text : t.rest ++ left.more ≡ [] = left.behind.text ∙ ap spellings (sym none) in
    let front = next_front held next in
    let same : t.rest ≡ front.bytes = cc (t.holds, front.holds) in
    let later : request (t.rest ++ left.more) ≡ Ok (Some front.found) = subst (λ o. Keeps o (request (t.rest ++ left.more))) (ap request same ∙ front.read) (request-keeps t.rest left.more) in
    absurd (cc (later, ap request text, nothing-there))

-- one follows, if not all were taken
pub not_all : (done others : Requests) (words : List (List ℕ)) → done ++ words ∷ others ≢ done
not_all done others words e =
    let none : words ∷ others ≡ [] = append_cancel_left done (words ∷ others) [] (e ∙ sym (append-nil done)) in
    absurd (cc (none))

not-false : (b : Bool) → not b ≡ false → b ≡ true
not-false true e = refl
not-false false e = absurd (cc (e))

nothing-held : (bytes : List ℕ) → holds_bytes (Ok bytes) ≡ false → bytes ≡ []
nothing-held bytes e = nil_from_length bytes (eqb-true (length bytes) 0 (not-false (length bytes == 0) e))

-- if nothing is held, the requests are all that was read
pub all_read : (first now : Passing) (held : Held) (done : Requests) → HasTaken first now held done → holds_bytes held ≡ false → Consumes first now (spellings done)
all_read first now held done t none =
    let rest : t.rest ≡ [] = nothing-held t.rest (ap holds_bytes (sym t.holds) ∙ none) in
    subst (λ b. Consumes first now b) (t.seen_is ∙ ap (λ r. spellings done ++ r) rest ∙ append-nil (spellings done)) t.consumes

-- nothing is held after all of them
pub none_held : (first now : Passing) (held : Held) (done : Requests) (rest : List ℕ) → HasTaken first now held done → Gives first done → IsAtEnd now → held ≡ Ok rest → request rest ≡ Ok None → holds_bytes held ≡ false
none_held first now held done rest t gives end holds none =
    let all = all_taken first now held done done rest t gives end holds none in
    ap holds_bytes holds ∙ ap (λ b. holds_bytes (Ok b)) all.1
