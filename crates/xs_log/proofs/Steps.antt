-- How far a log is read, request by request.
use Rattle.std.proofs.Common.{◌≡◌, ◌≢◌, ◌⊎◌, inl, inr, ℕ, ◌+◌, ◌<◌, ◌≤◌, zero, suc, List, [], ◌∷◌, ◌++◌, length, take, drop, map, codes, decimal, Some, None, Option, refl, sym, ap, ◌∙◌, subst, arith, append_assoc, length-append}
use Rattle.std.proofs.lemmas.List.{append-nil, take-append-drop, drop_at, take_at}
use Rattle.std.proofs.lemmas.List.Concat.{flat_map-append}
use Rattle.std.specs.Prelude.{Bool, Result, Ok, Err}
use Rattle.std.specs.List.{AllByRecursion}
use Rattle.std.specs.Io.KnownBytes as std
use Rattle.xs_io.specs.Passing.{Passing, Consumes}
use Rattle.xs_resp.specs.declared.read_fault.ProtocolFault.{ProtocolFault}
use Rattle.xs_resp.specs.declared.read_fault.ReadFault.{ReadFault}
use Rattle.xs_resp.specs.Outcome.{Outcome, Keeps}
use Rattle.xs_resp.specs.HeldBytes.{Held, with_piece, Ready, ReadyOf, front_of}
use Rattle.xs_resp.specs.Reading.{Found, request, words_in}
use Rattle.xs_resp.specs.Grammar.{spelling}
use Rattle.xs_resp.proofs.Decisions.{request-keeps, request-read}
use Rattle.xs_keys.specs.Event.{Event, event_moment}
use Rattle.xs_keys.specs.Content.{Content}
use Rattle.xs_tape.specs.Records.{CanBeSpelled, with_checksum, with_size, spellings}
use Rattle.xs_tape.specs.Escape.{escaped}
use Rattle.xs_tape.specs.Heads.{IsCut}
use Rattle.xs_tape.proofs.Heads.{nothing_cut}
use Rattle.xs_tape.proofs.Firsts.{spelling-found, same-front}
use Rattle.xs_replay.specs.After.{after, contents_after, moment_after}
use Rattle.xs_replay.specs.Log.{IsRecordOf, AreRecordsOf, IsLog, HasEvents}
use Rattle.xs_log.specs.declared.fault.LogFault.{LogFault}
use Rattle.xs_log.specs.Fault.{IsWant}
use Rattle.xs_log.proofs.Headers.{behind_name}
use Rattle.xs_log.specs.Reading.{IsPartOfLog, TakesRequest, MayStand, IsReadUpTo}

-- ---- what a reader holds

ready-of : (bytes : List ℕ) (outcome : Outcome Found) (result : Result Bool ReadFault) (new : Held) (b : Bool) → ReadyOf bytes outcome result new → result ≡ Ok b → new ≡ Ok bytes
ready-of bytes (Ok (Some found)) result new b r e = r.1
ready-of bytes (Ok None) result new b r e = r.1
ready-of bytes (Err wrong) result new b r e = absurd (cc (r.0))

-- a look that succeeds changes nothing
pub ready_same : (old : Held) (result : Result Bool ReadFault) (new : Held) (b : Bool) → Ready old result new → result ≡ Ok b → new ≡ old
ready_same (Ok bytes) result new b r e = ready-of bytes (request bytes) result new b r e
ready_same (Err wrong) result new b r e = absurd (cc (r.0))

pub record IsFault (bytes : List ℕ) : Type 0 where
  pub wrong : ProtocolFault
  pub is : request bytes ≡ Err wrong

fault-of : (bytes : List ℕ) (outcome : Outcome Found) (result : Result Bool ReadFault) (new : Held) (fault : ReadFault) → request bytes ≡ outcome → ReadyOf bytes outcome result new → result ≡ Err fault → IsFault bytes
fault-of bytes (Ok (Some found)) result new fault o r e = absurd (cc (r.0))
fault-of bytes (Ok None) result new fault o r e = absurd (cc (r.0))
fault-of bytes (Err wrong) result new fault o r e = record { wrong = wrong; is = o }

-- a look that fails has found a fault
pub ready_fault : (old : Held) (bytes : List ℕ) (result : Result Bool ReadFault) (new : Held) (fault : ReadFault) → old ≡ Ok bytes → Ready old result new → result ≡ Err fault → IsFault bytes
ready_fault old bytes result new fault h r e =
    let here : Ready (Ok bytes) result new = subst (λ o. Ready o result new) h r in
    fault-of bytes (request bytes) result new fault refl here e

pub front_words : (held : Held) (bytes : List ℕ) (found : Found) → held ≡ Ok bytes → request bytes ≡ Ok (Some found) → front_of held ≡ found.words
front_words held bytes found e f = ap front_of e ∙ ap words_in f

-- ---- requests that were taken

pub spellings-more : (requests : List (List (List ℕ))) (words : List (List ℕ)) → spellings (requests ++ words ∷ []) ≡ spellings requests ++ spelling words
spellings-more requests words = flat_map-append spelling requests (words ∷ []) ∙ ap (λ b. spellings requests ++ b) (append-nil (spelling words))

pub all-more : (requests : List (List (List ℕ))) (words : List (List ℕ)) → AllByRecursion CanBeSpelled requests → CanBeSpelled words → AllByRecursion CanBeSpelled (requests ++ words ∷ [])
all-more [] words all one = (one, tt)
all-more (w ∷ requests) words all one = (all.0, all-more requests words all.1 one)

pub records-more : (records : List (List (List ℕ))) (events : List Event) (words : List (List ℕ)) (event : Event) → AreRecordsOf records events → IsRecordOf words event → AreRecordsOf (records ++ words ∷ []) (events ++ event ∷ [])
records-more [] [] words event are is = (is, tt)
records-more [] (e ∷ events) words event are is = absurd are
records-more (w ∷ records) [] words event are is = absurd are
records-more (w ∷ records) (e ∷ events) words event are is = (are.0, records-more records events words event are.1 is)

pub contents_more : (content : Content) (events : List Event) (event : Event) → contents_after content (events ++ event ∷ []) ≡ after (contents_after content events) event
contents_more content [] event = refl
contents_more content (e ∷ events) event = contents_more (after content e) events event

moment-more : (before : Option ℕ) (events : List Event) (event : Event) → moment_after before (events ++ event ∷ []) ≡ Some (event_moment event)
moment-more before [] event = refl
moment-more before (e ∷ events) event = moment-more (Some (event_moment e)) events event

-- words that aren't empty are at the front in their spelling
pub spelled-front : (bytes : List ℕ) (found : Found) → request bytes ≡ Ok (Some found) → found.words ≢ [] → CanBeSpelled found.words × (bytes ≡ spelling found.words ++ drop found.end bytes) × (found.end ≡ length (spelling found.words))
spelled-front bytes found e some =
    let read = request-read bytes found e in
    elim read.spells.spelled [
      | inl is ↦ (
        record { number = read.spells.number; sizes = read.spells.sizes },
        sym (take-append-drop found.end bytes) ∙ ap (λ b. b ++ drop found.end bytes) is,
        sym (Rattle.std.proofs.lemmas.List.length-take-le found.end bytes read.within) ∙ ap length is,
      )
      | inr none ↦ absurd (some none.0)
    ]

-- words that were taken are some words
takes-some : (number at : ℕ) (words : List (List ℕ)) (old : Content) (before : Option ℕ) (new : Content) (moment : Option ℕ) → TakesRequest number at words old before new moment → words ≢ []
takes-some number at words old before new moment (inl header) e = absurd (cc (header.1, e))
takes-some number at words old before new moment (inr record_of) e = absurd (cc (((record_of.1).1).stands, e))

-- the events with one request more
record LogMore (number : ℕ) (start : Content) (before : Option ℕ) (requests : List (List (List ℕ))) (content : Content) (moment : Option ℕ) : Type 0 where
  pub events : List Event
  pub is_log : IsLog number requests events
  pub content_is : content ≡ contents_after start events
  pub moment_is : moment ≡ moment_after before events

log-more : (number at : ℕ) (start : Content) (before : Option ℕ) (requests : List (List (List ℕ))) (events : List Event) (words : List (List ℕ)) (old : Content) (middle : Option ℕ) (new : Content) (moment : Option ℕ)
    → IsLog number requests events → at ≡ length (spellings requests) → old ≡ contents_after start events → middle ≡ moment_after before events → TakesRequest number at words old middle new moment
    → LogMore number start before (requests ++ words ∷ []) new moment
log-more number at start before [] events words old middle new moment is e c m (inl header) = record {
  events = [];
  is_log = (header.1, tt);
  content_is = header.2 ∙ c ∙ ap (contents_after start) is;
  moment_is = header.3 ∙ m ∙ ap (moment_after before) is;
}
log-more number at start before [] events words old middle new moment is e c m (inr taken) = absurd (omega (arith, e, taken.0))
log-more number at start before (h ∷ requests) events words old middle new moment is e c m (inl header) = absurd (omega (arith, e, header.0))
log-more number at start before (h ∷ requests) events words old middle new moment is e c m (inr taken) =
    let event = (taken.1).0 in
    record {
      events = events ++ event ∷ [];
      is_log = (is.0, records-more requests events words event is.1 (taken.1).1);
      content_is = (taken.1).2 ∙ ap (λ x. after x event) c ∙ sym (contents_more start events event);
      moment_is = (taken.1).3 ∙ sym (moment-more before events event);
    }

-- a request more was taken
pub read_more : (number : ℕ) (start : Content) (before : Option ℕ) (seen : List ℕ) (held next : Held) (at end : ℕ) (old new : Content) (middle moment : Option ℕ) (bytes : List ℕ) (found : Found)
    → IsReadUpTo number start before seen held at old middle → held ≡ Ok bytes → request bytes ≡ Ok (Some found) → next ≡ Ok (drop found.end bytes) → end ≡ at + found.end
    → TakesRequest number at found.words old middle new moment → IsReadUpTo number start before seen next end new moment
read_more number start before seen held next at end old new middle moment bytes found up holds read left sum taken =
    let front = spelled-front bytes found read (takes-some number at found.words old middle new moment taken) in
    let more = log-more number at start before up.requests up.events found.words old middle new moment up.is_log up.at_is up.content_is up.moment_is taken in
    let same : up.rest ≡ bytes = cc (up.holds, holds) in
    let text = spellings-more up.requests found.words in
    record {
      requests = up.requests ++ found.words ∷ [];
      rest = drop found.end bytes;
      events = more.events;
      holds = left;
      seen_is = up.seen_is ∙ ap (λ b. spellings up.requests ++ b) (same ∙ front.1)
          ∙ sym (append_assoc (spellings up.requests) (spelling found.words) (drop found.end bytes)) ∙ ap (λ b. b ++ drop found.end bytes) (sym text);
      spelled = all-more up.requests found.words up.spelled front.0;
      is_log = more.is_log;
      at_is = omega (arith, sum, front.2, up.at_is, ap length text, length-append (spellings up.requests) (spelling found.words));
      content_is = more.content_is;
      moment_is = more.moment_is;
    }

pub read_first : (number : ℕ) (start : Content) (before : Option ℕ) (held : Held) → held ≡ Ok [] → IsReadUpTo number start before [] held 0 start before
read_first number start before held e = record { requests = []; rest = []; events = []; holds = e; seen_is = refl; spelled = tt; is_log = refl; at_is = refl; content_is = refl; moment_is = refl }

pub read_fed : (number : ℕ) (start : Content) (before : Option ℕ) (seen got : List ℕ) (held next : Held) (at : ℕ) (content : Content) (moment : Option ℕ) → IsReadUpTo number start before seen held at content moment → next ≡ with_piece held got
    → IsReadUpTo number start before (seen ++ got) next at content moment
read_fed number start before seen got held next at content moment up fed = record {
  requests = up.requests;
  rest = up.rest ++ got;
  events = up.events;
  holds = fed ∙ ap (λ h. with_piece h got) up.holds;
  seen_is = ap (λ b. b ++ got) up.seen_is ∙ append_assoc (spellings up.requests) up.rest got;
  spelled = up.spelled;
  is_log = up.is_log;
  at_is = up.at_is;
  content_is = up.content_is;
  moment_is = up.moment_is;
}

-- all is read
pub read_all : (number : ℕ) (start : Content) (before : Option ℕ) (seen rest : List ℕ) (held : Held) (at part : ℕ) (content : Content) (moment : Option ℕ) → (up : IsReadUpTo number start before seen held at content moment)
    → held ≡ Ok rest → request rest ≡ Ok None → part ≡ length rest → HasEvents number seen up.events at part
read_all number start before seen rest held at part content moment up holds none size =
    let same : up.rest ≡ rest = cc (up.holds, holds) in
    record {
      requests = up.requests;
      rest = up.rest;
      are = record { whole = up.seen_is; spelled = up.spelled; unfinished = ap request same ∙ none };
      is_log = up.is_log;
      whole_is = up.at_is;
      part_is = size ∙ ap length (sym same);
    }

-- what is held follows the complete requests
pub rest_is : (number : ℕ) (start : Content) (before : Option ℕ) (seen rest : List ℕ) (held : Held) (at : ℕ) (content : Content) (moment : Option ℕ) → IsReadUpTo number start before seen held at content moment → held ≡ Ok rest
    → drop at seen ≡ rest
rest_is number start before seen rest held at content moment up holds =
    let same : up.rest ≡ rest = cc (up.holds, holds) in
    ap (drop at) up.seen_is ∙ drop_at (spellings up.requests) up.rest at (sym up.at_is) ∙ same

-- ---- a log that was written

pub nothing-there : request [] ≡ Ok None
nothing-there = nothing-is (request []) Rattle.xs_resp.proofs.Cutting.nothing-read
  where
    nothing-is : (o : Outcome Found) → Rattle.xs_resp.specs.Pieces.Rests o [] (Ok []) → o ≡ Ok None
    nothing-is (Ok (Some found)) r = absurd r
    nothing-is (Ok None) r = refl
    nothing-is (Err wrong) r = absurd (cc)

-- what was written after the requests that were taken
pub record Behind (done written : List (List (List ℕ))) (rest more : List ℕ) : Type 0 where
  pub others : List (List (List ℕ))
  pub split : written ≡ done ++ others
  pub spelled : AllByRecursion CanBeSpelled others
  pub text : rest ++ more ≡ spellings others

pub behind : (done written : List (List (List ℕ))) (seen rest more : List ℕ) → AllByRecursion CanBeSpelled done → AllByRecursion CanBeSpelled written → seen ≡ spellings done ++ rest → seen ++ more ≡ spellings written → Behind done written rest more
behind [] written seen rest more one all e f = record { others = written; split = refl; spelled = all; text = ap (λ b. b ++ more) (sym e) ∙ f }
behind (w ∷ done) [] seen rest more one all e f = absurd (cc (e, f))
behind (w ∷ done) (v ∷ written) seen rest more one all e f =
    let split : seen ≡ spelling w ++ (spellings done ++ rest) = e ∙ append_assoc (spelling w) (spellings done) rest in
    let joined : spelling w ++ ((spellings done ++ rest) ++ more) ≡ spelling v ++ spellings written = sym (append_assoc (spelling w) (spellings done ++ rest) more) ∙ ap (λ b. b ++ more) (sym split) ∙ f in
    let same = same-front w v ((spellings done ++ rest) ++ more) (spellings written) one.0 all.0 joined in
    let others = behind done written (spellings done ++ rest) rest more one.1 all.1 refl same.1 in
    record { others = others.others; split = ap (λ ws. v ∷ ws) others.split ∙ ap (λ x. x ∷ (done ++ others.others)) (sym same.0); spelled = others.spelled; text = others.text }

-- of two lists that begin a third one, one begins the other
one-begins : (xs ys zs ws : List ℕ) → xs ++ ys ≡ zs ++ ws → ((more : List ℕ) × (xs ≡ zs ++ more)) ⊎ ((more : List ℕ) × (zs ≡ xs ++ more) × (more ≢ []))
one-begins xs ys [] ws e = inl (xs, refl)
one-begins [] ys (z ∷ zs) ws e = inr (z ∷ zs, refl, λ f. absurd (cc (f)))
one-begins (x ∷ xs) ys (z ∷ zs) ws e =
    let first : x ≡ z = cc in
    let tail : xs ++ ys ≡ zs ++ ws = cc in
    elim (one-begins xs ys zs ws tail) [
      | inl more ↦ inl (more.0, ap (λ b. b ∷ xs) first ∙ ap (λ t. z ∷ t) more.1)
      | inr more ↦ inr (more.0, ap (λ t. z ∷ t) more.1 ∙ ap (λ b. b ∷ (xs ++ more.0)) (sym first), more.2)
    ]

-- there is no fault in what was written
pub no-fault-in : (others : List (List (List ℕ))) (rest more : List ℕ) → AllByRecursion CanBeSpelled others → rest ++ more ≡ spellings others → IsFault rest → ⊥
no-fault-in [] rest more can e fault =
    let later : request (rest ++ more) ≡ Err fault.wrong = subst (λ o. Keeps o (request (rest ++ more))) fault.is (request-keeps rest more) in
    absurd (cc (later, ap request e, nothing-there))
no-fault-in (w ∷ others) rest more can e fault =
    let later : request (rest ++ more) ≡ Err fault.wrong = subst (λ o. Keeps o (request (rest ++ more))) fault.is (request-keeps rest more) in
    absurd (cc (later, ap request e, spelling-found w (spellings others) can.0))

pub no_fault : (number : ℕ) (start : Content) (before : Option ℕ) (seen bytes : List ℕ) (held : Held) (at : ℕ) (content : Content) (moment : Option ℕ) → IsReadUpTo number start before seen held at content moment → IsPartOfLog number seen
    → held ≡ Ok bytes → IsFault bytes → ⊥
no_fault number start before seen bytes held at content moment up part holds fault =
    let same : up.rest ≡ bytes = cc (up.holds, holds) in
    let others = behind up.requests part.requests seen up.rest part.more up.spelled part.spelled up.seen_is part.written in
    no-fault-in others.others up.rest part.more others.spelled others.text (subst IsFault (sym same) fault)

record-at : (done others : List (List (List ℕ))) (words : List (List ℕ)) (events : List Event) → AreRecordsOf (done ++ words ∷ others) events → (event : Event) × IsRecordOf words event
record-at [] others words [] are = absurd are
record-at [] others words (e ∷ events) are = (e, are.0)
record-at (d ∷ done) others words [] are = absurd are
record-at (d ∷ done) others words (e ∷ events) are = record-at done others words events are.1

stands-at : (number at : ℕ) (done others : List (List (List ℕ))) (words : List (List ℕ)) (events : List Event) → IsLog number (done ++ words ∷ others) events → at ≡ length (spellings done) → MayStand number at words
stands-at number at [] others words events is e = inl (e, is.0)
stands-at number at (h ∷ done) others words events is e = inr (omega (arith, e), record-at done others words events is.1)

-- words that are possible in a log begin with their size
sized-words : (number at : ℕ) (words : List (List ℕ)) → MayStand number at words → (sized : List (List ℕ)) × (words ≡ with_size sized)
sized-words number at words (inl header) = (map escaped (with_checksum (codes "xs-log") (behind_name number)), header.1)
sized-words number at words (inr taken) = (map escaped (with_checksum (decimal (event_moment (taken.1).0)) ((taken.1).1).plain), ((taken.1).1).stands)

nothing-left : (rest more : List ℕ) → rest ++ more ≡ [] → IsCut rest
nothing-left [] more e = nothing_cut
nothing-left (b ∷ rest) more e = absurd (cc)

-- what is left of a request that was written is a beginning of it
left-of : (words sized : List (List ℕ)) (rest more later : List ℕ) → words ≡ with_size sized → CanBeSpelled words → rest ++ more ≡ spelling words ++ later → request rest ≡ Ok None → IsCut rest
left-of words sized rest more later is can e none =
    elim (one-begins rest more (spelling words) later e) [
      | inl over ↦ absurd (cc (none, ap request over.1, spelling-found words over.0 can))
      | inr cut ↦ record { words = sized; more = cut.0; spelled = subst CanBeSpelled is can; whole = ap spelling (sym is) ∙ cut.1; some = cut.2 }
    ]

cut-of : (number : ℕ) (done written others : List (List (List ℕ))) (rest more : List ℕ) (events : List Event) → AllByRecursion CanBeSpelled others → written ≡ done ++ others → IsLog number written events → rest ++ more ≡ spellings others
    → request rest ≡ Ok None → IsCut rest
cut-of number done written [] rest more events can split is e none = nothing-left rest more e
cut-of number done written (w ∷ others) rest more events can split is e none =
    let sized = sized-words number (length (spellings done)) w (stands-at number (length (spellings done)) done others w events (subst (λ rs. IsLog number rs events) split is) refl) in
    left-of w sized.0 rest more (spellings others) sized.1 can.0 e none

found-at : (number at : ℕ) (done written others : List (List (List ℕ))) (rest more : List ℕ) (found : Found) (events : List Event) → AllByRecursion CanBeSpelled others → written ≡ done ++ others → rest ++ more ≡ spellings others
    → request rest ≡ Ok (Some found) → IsLog number written events → at ≡ length (spellings done) → MayStand number at found.words
found-at number at done written [] rest more found events can split e read is at_is =
    let later : request (rest ++ more) ≡ Ok (Some found) = subst (λ o. Keeps o (request (rest ++ more))) read (request-keeps rest more) in
    absurd (cc (later, ap request e, nothing-there))
found-at number at done written (w ∷ others) rest more found events can split e read is at_is =
    let later : request (rest ++ more) ≡ Ok (Some found) = subst (λ o. Keeps o (request (rest ++ more))) read (request-keeps rest more) in
    let there = spelling-found w (spellings others) can.0 in
    let one : Found = record { words = w; end = length (spelling w) } in
    let same : found ≡ one = cc (later, ap request e, there) in
    let words : w ≡ found.words = sym (ap (λ (f : Found). f.words) same) in
    subst (λ ws. MayStand number at ws) words (stands-at number at done others w events (subst (λ rs. IsLog number rs events) split is) at_is)

pub may_stand : (number : ℕ) (start : Content) (before : Option ℕ) (seen bytes : List ℕ) (held : Held) (at : ℕ) (content : Content) (moment : Option ℕ) (found : Found) → IsReadUpTo number start before seen held at content moment
    → IsPartOfLog number seen → held ≡ Ok bytes → request bytes ≡ Ok (Some found) → MayStand number at found.words
may_stand number start before seen bytes held at content moment found up part holds read =
    let same : up.rest ≡ bytes = cc (up.holds, holds) in
    let others = behind up.requests part.requests seen up.rest part.more up.spelled part.spelled up.seen_is part.written in
    found-at number at up.requests part.requests others.others up.rest part.more found part.events others.spelled others.split others.text (ap request same ∙ read) part.is_log up.at_is

-- what is held at the end is a beginning of what was written
pub is_cut : (number : ℕ) (start : Content) (before : Option ℕ) (seen rest : List ℕ) (held : Held) (at : ℕ) (content : Content) (moment : Option ℕ) → IsReadUpTo number start before seen held at content moment → IsPartOfLog number seen
    → held ≡ Ok rest → request rest ≡ Ok None → IsCut rest
is_cut number start before seen rest held at content moment up part holds none =
    let same : up.rest ≡ rest = cc (up.holds, holds) in
    let others = behind up.requests part.requests seen up.rest part.more up.spelled part.spelled up.seen_is part.written in
    subst IsCut same (cut-of number up.requests part.requests others.others up.rest part.more part.events others.spelled others.split part.is_log others.text (ap request same ∙ none))

pub part_of_log : (number : ℕ) (bytes seen rest : List ℕ) → IsPartOfLog number bytes → bytes ≡ seen ++ rest → IsPartOfLog number seen
part_of_log number bytes seen rest part e =
    record { requests = part.requests; events = part.events; more = rest ++ part.more; spelled = part.spelled; is_log = part.is_log; written = sym (append_assoc seen rest part.more) ∙ ap (λ b. b ++ part.more) (sym e) ∙ part.written }

known_part : (number : ℕ) (old new : Option (List ℕ)) (bytes seen : List ℕ) → old ≡ Some bytes → std.Consumes old new seen → IsPartOfLog number bytes → IsPartOfLog number seen
known_part number None new bytes seen e consumes part = absurd (cc (e))
known_part number (Some xs) None bytes seen e consumes part = absurd consumes
known_part number (Some xs) (Some ys) bytes seen e consumes part =
    let same : bytes ≡ xs = cc (e) in
    part_of_log number bytes seen ys part (same ∙ consumes)

pub seen_part : (number : ℕ) (old new : Passing) (bytes seen : List ℕ) → old.known ≡ Some bytes → Consumes old new seen → IsPartOfLog number bytes → IsPartOfLog number seen
seen_part number old new bytes seen e consumes part = known_part number old.known new.known bytes seen e consumes.0 part

-- the fault is that something ran out, if the words are possible
pub only_want : (fault : LogFault) (Stands : Type 0) → IsWant fault ⊎ (Stands → ⊥) → Stands → IsWant fault
only_want fault Stands (inl want) stands = want
only_want fault Stands (inr wrong) stands = absurd (wrong stands)

-- a look that returns true has found a request
pub record IsFound (bytes : List ℕ) : Type 0 where
  pub found : Found
  pub read : request bytes ≡ Ok (Some found)

found-of : (bytes : List ℕ) (outcome : Outcome Found) (result : Result Bool ReadFault) (new : Held) → request bytes ≡ outcome → ReadyOf bytes outcome result new → result ≡ Ok Rattle.std.proofs.Common.true → IsFound bytes
found-of bytes (Ok (Some found)) result new o r e = record { found = found; read = o }
found-of bytes (Ok None) result new o r e = absurd (cc (r.0, e))
found-of bytes (Err wrong) result new o r e = absurd (cc (r.0))

pub ready_found : (old : Held) (bytes : List ℕ) (result : Result Bool ReadFault) (new : Held) → old ≡ Ok bytes → Ready old result new → result ≡ Ok Rattle.std.proofs.Common.true → IsFound bytes
ready_found old bytes result new h r e =
    let here : Ready (Ok bytes) result new = subst (λ o. Ready o result new) h r in
    found-of bytes (request bytes) result new refl here e

-- what a look that returns true has found
pub record HasFront (held : Held) : Type 0 where
  pub bytes : List ℕ
  pub found : Found
  pub holds : held ≡ Ok bytes
  pub read : request bytes ≡ Ok (Some found)

pub ready_front : (old : Held) (result : Result Bool ReadFault) (new : Held) → Ready old result new → result ≡ Ok Rattle.std.proofs.Common.true → HasFront new
ready_front (Ok bytes) result new r e =
    let there = found-of bytes (request bytes) result new refl r e in
    record { bytes = bytes; found = there.found; holds = ready-of bytes (request bytes) result new Rattle.std.proofs.Common.true r e; read = there.read }
ready_front (Err wrong) result new r e = absurd (cc (r.0, e))

-- words at the front take as many bytes as their spelling has
pub front_size : (held : Held) (front : HasFront held) (words : List (List ℕ)) (size : ℕ) → words ≡ front_of held
    → ((bytes : List ℕ) (found : Found) → held ≡ Ok bytes → request bytes ≡ Ok (Some found) → size ≡ found.end) → words ≢ [] → size ≡ length (spelling words)
front_size held front words size is end some =
    let same = is ∙ front_words held front.bytes front.found front.holds front.read in
    let there = spelled-front front.bytes front.found front.read (λ none. some (same ∙ none)) in
    end front.bytes front.found front.holds front.read ∙ there.2 ∙ ap (λ ws. length (spelling ws)) (sym same)
