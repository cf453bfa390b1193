-- Logs on a tape, and how calls change them.
use Rattle.std.proofs.Common.{◌≡◌, ◌⊎◌, inl, inr, ℕ, suc, ◌+◌, ◌-◌, ◌^◌, ◌<◌, ◌≤◌, true, false, List, [], ◌∷◌, ◌++◌, length, take, map, Option, Some, None, Ok, Err, decimal, codes, refl, sym, ap, ◌∙◌, subst, arith, append_assoc, length-append}
use Rattle.std.specs.Prelude.{Bool, Result, IfSome, MatchResult, ◌||◌}
use Rattle.std.specs.List.{AllByRecursion}
use Rattle.std.proofs.lemmas.List.{append-nil, take_all, take-append-le, nil_from_length}
use Rattle.std.proofs.lemmas.Fmt.{length-decimal-le}
use Rattle.xs_command.specs.declared.command.Command.{Command}
use Rattle.xs_command.specs.Read.{command_of_words}
use Rattle.xs_command.specs.WellFormed.{IsWellFormed}
use Rattle.xs_resp.specs.Grammar.{spelling}
use Rattle.xs_keys.specs.Event.{Event}
use Rattle.xs_tape.specs.Records.{CanBeSpelled, record_words, record_text, spellings}
use Rattle.xs_tape.specs.Tape.{TapeBytes}
use Rattle.xs_tape.specs.Writing.{Writing, IsOnTape, MayBeOnTape, Has, Puts, Keeps, Closes}
use Rattle.xs_tape.specs.Escape.{escaped}
use Rattle.xs_tape.proofs.Sizes.{escaped-short, can_be_spelled}
use Rattle.xs_resp.specs.Grammar.{AreSizes}
use Rattle.xs_replay.specs.Log.{model_number, IsRecordOf, AreRecordsOf, IsLog, header_words}
use Rattle.xs_log.specs.Reading.{IsClosedLog}
use Rattle.xs_log.specs.TapeLog.{AreClosedLogs, IsLogOnTape, MayBeLogOnTape, HasLog, MayHaveClosedLogs, AwaitsHeader, MayBeLogs}
use Rattle.xs_log.proofs.Steps.{spellings-more, all-more, records-more}

-- ---- a tape whose content isn't known stays so

unknown-on : (b : Bool) (p : List ℕ) (o : Option TapeBytes) (first more : List (List ℕ)) (text other : List ℕ) (sure fewer : ℕ) → MayBeOnTape b p o first text sure → MayBeOnTape b p o more other fewer
    → (first ≡ more → ⊥) → o ≡ None
unknown-on b p None first more text other sure fewer h k differ = refl
unknown-on b p (Some t) first more text other sure fewer h k differ = absurd (differ (sym h.closed_is ∙ k.closed_is))

unknown : (w : Writing) (text other : List ℕ) (sure fewer : ℕ) → Has w [] text sure → Has w ([] ∷ []) other fewer → w.holds ≡ None
unknown w text other sure fewer h k = unknown-on w.broken w.pending w.holds [] ([] ∷ []) text other sure fewer h k (λ e. absurd (cc (e)))

-- how a call changes the content of a tape
abbrev Makes : Writing → Writing → Type 0
Makes old new = (closed : List (List ℕ)) (text : List ℕ) (sure : ℕ) → Has old closed text sure → Has new closed text sure

has-none : (w : Writing) (closed : List (List ℕ)) (text : List ℕ) (sure : ℕ) → w.holds ≡ None → Has w closed text sure
has-none w closed text sure e = subst (λ o. MayBeOnTape w.broken w.pending o closed text sure) (sym e) tt

log-none : (broken : Bool) (number : ℕ) (w : Writing) (events : List Event) (kept : ℕ) → w.holds ≡ None → HasLog broken number w events kept
log-none broken number w events kept e = subst (λ o. MayBeLogOnTape broken number w.pending o events kept) (sym e) tt

-- ---- fewer bytes, fewer events

fewer-on : (b : Bool) (p : List ℕ) (o : Option TapeBytes) (closed : List (List ℕ)) (text : List ℕ) (more fewer : ℕ) → fewer ≤ more → MayBeOnTape b p o closed text more → MayBeOnTape b p o closed text fewer
fewer-on b p None closed text more fewer le h = tt
fewer-on b p (Some t) closed text more fewer le h = record { closed_is = h.closed_is; text_is = h.text_is; kept_is = omega (arith, le, h.kept_is); within = h.within }

records-length : (records : List (List (List ℕ))) (events : List Event) → AreRecordsOf records events → length events ≡ length records
records-length [] [] are = refl
records-length [] (e ∷ events) are = absurd are
records-length (w ∷ records) [] are = absurd are
records-length (w ∷ records) (e ∷ events) are = ap (λ n. suc n) (records-length records events are.1)

log-length : (number : ℕ) (requests : List (List (List ℕ))) (events : List Event) → IsLog number requests events → length events ≡ length requests - 1
log-length number [] events is = ap length is
log-length number (h ∷ records) events is = omega (arith, records-length records events is.1)

log-fewer-on : (broken : Bool) (number : ℕ) (p : List ℕ) (o : Option TapeBytes) (events : List Event) (more fewer : ℕ) → fewer ≤ more → MayBeLogOnTape broken number p o events more → MayBeLogOnTape broken number p o events fewer
log-fewer-on broken number p None events more fewer le log = tt
log-fewer-on broken number p (Some t) events more fewer le log = record {
  closed = log.closed;
  before = log.before;
  last = log.last;
  requests = log.requests;
  sure = log.sure;
  events_are = log.events_are;
  closed_are = log.closed_are;
  number_is = log.number_is;
  spelled = log.spelled;
  is_log = log.is_log;
  header = log.header;
  within = log.within;
  header_kept = log.header_kept;
  kept_are = omega (arith, le, log.kept_are);
  on_tape = log.on_tape;
}

-- no more events are kept than there are
log-within-on : (broken : Bool) (number : ℕ) (p : List ℕ) (t : TapeBytes) (events : List Event) (kept : ℕ) → IsLogOnTape broken number p t events kept → kept ≤ length events
log-within-on broken number p t events kept log =
    omega (arith, log.kept_are, log.within, log-length (suc (length log.closed)) log.requests log.last log.is_log, ap length log.events_are, length-append log.before log.last)

-- ---- an event is noted

is-log-more : (number : ℕ) (requests : List (List (List ℕ))) (events : List Event) (words : List (List ℕ)) (event : Event) → 0 < length requests → IsLog number requests events → IsRecordOf words event
    → IsLog number (requests ++ words ∷ []) (events ++ event ∷ [])
is-log-more number [] events words event some is of = absurd (omega (arith, some))
is-log-more number (h ∷ requests) events words event some is of = (is.0, records-more requests events words event is.1 of)

noted-on : (number : ℕ) (words : List (List ℕ)) (event : Event) (old new : Writing) (o n : Option TapeBytes) (events : List Event) (kept : ℕ) → old.holds ≡ o → new.holds ≡ n → old.broken ≡ false
    → Puts old new (spelling words) → CanBeSpelled words → IsRecordOf words event → MayBeLogOnTape old.broken number old.pending o events kept → MayBeLogOnTape new.broken number new.pending n (events ++ event ∷ []) kept
noted-on number words event old new o None events kept e f sound puts can of log = tt
noted-on number words event old new None (Some n) events kept e f sound puts can of log =
    let none = unknown new _ _ 0 0 (puts.puts [] [] 0 (has-none old [] [] 0 e)) (puts.puts ([] ∷ []) [] 0 (has-none old ([] ∷ []) [] 0 e)) in
    absurd (cc (none, f))
noted-on number words event old new (Some o) (Some n) events kept e f sound puts can of log =
    let text = spellings log.requests in
    let sure = length (spellings (take log.sure log.requests)) in
    let more = log.requests ++ words ∷ [] in
    let there : Has new log.closed (text ++ spelling words) sure = puts.puts log.closed text sure (subst (λ x. MayBeOnTape old.broken old.pending x log.closed text sure) (sym e) log.on_tape) in
    let tape : MayBeOnTape new.broken new.pending (Some n) log.closed (text ++ spelling words) sure = subst (λ x. MayBeOnTape new.broken new.pending x log.closed (text ++ spelling words) sure) f there in
    let front : length (spellings (take log.sure more)) ≡ sure = ap (λ rs. length (spellings rs)) (take-append-le log.sure log.requests (words ∷ []) log.within) in
    record {
      closed = log.closed;
      before = log.before;
      last = log.last ++ event ∷ [];
      requests = more;
      sure = log.sure;
      events_are = ap (λ es. es ++ event ∷ []) log.events_are ∙ append_assoc log.before log.last (event ∷ []);
      closed_are = log.closed_are;
      number_is = λ fine. log.number_is sound;
      spelled = all-more log.requests words log.spelled can;
      is_log = is-log-more (suc (length log.closed)) log.requests log.last words event log.header log.is_log of;
      header = omega (arith, length-append log.requests (words ∷ []));
      within = omega (arith, log.within, length-append log.requests (words ∷ []));
      header_kept = λ fine. log.header_kept sound;
      kept_are = log.kept_are;
      on_tape = subst (λ s. IsOnTape new.broken new.pending n log.closed (spellings more) s) (sym front) (subst (λ b. IsOnTape new.broken new.pending n log.closed b sure) (sym (spellings-more log.requests words)) tape);
    }

pub noted : (number now : ℕ) (words : List (List ℕ)) (command : Command) (old new : Writing) (events : List Event) (kept : ℕ) → old.broken ≡ false → Puts old new (record_text (decimal now) words)
    → CanBeSpelled (record_words (decimal now) words) → now < 2 ^ 63 → command_of_words words ≡ Ok command → IsWellFormed command → HasLog old.broken number old events kept
    → HasLog new.broken number new (events ++ (now, command) ∷ []) kept
noted number now words command old new events kept sound puts can small is formed log =
    let of : IsRecordOf (record_words (decimal now) words) (now, command) = record { plain = words; stands = refl; small = small; command_is = is; formed = formed } in
    noted-on number (record_words (decimal now) words) (now, command) old new old.holds new.holds events kept refl refl sound puts can of log

-- ---- all is kept

kept-on : (number : ℕ) (old new : Writing) (o n : Option TapeBytes) (events : List Event) (kept : ℕ) → old.holds ≡ o → new.holds ≡ n → old.broken ≡ false
    → ((closed : List (List ℕ)) (text : List ℕ) (sure : ℕ) → Has old closed text sure → Has new closed text (length text)) → MayBeLogOnTape old.broken number old.pending o events kept
    → MayBeLogOnTape new.broken number new.pending n events (length events)
kept-on number old new o None events kept e f sound keeps log = tt
kept-on number old new None (Some n) events kept e f sound keeps log =
    let none = unknown new _ _ 0 0 (keeps [] [] 0 (has-none old [] [] 0 e)) (keeps ([] ∷ []) [] 0 (has-none old ([] ∷ []) [] 0 e)) in
    absurd (cc (none, f))
kept-on number old new (Some o) (Some n) events kept e f sound keeps log =
    let text = spellings log.requests in
    let sure = length (spellings (take log.sure log.requests)) in
    let there : Has new log.closed text (length text) = keeps log.closed text sure (subst (λ x. MayBeOnTape old.broken old.pending x log.closed text sure) (sym e) log.on_tape) in
    let all : length (spellings (take (length log.requests) log.requests)) ≡ length text = ap (λ rs. length (spellings rs)) (take_all (length log.requests) log.requests (omega arith)) in
    record {
      closed = log.closed;
      before = log.before;
      last = log.last;
      requests = log.requests;
      sure = length log.requests;
      events_are = log.events_are;
      closed_are = log.closed_are;
      number_is = λ fine. log.number_is sound;
      spelled = log.spelled;
      is_log = log.is_log;
      header = log.header;
      within = omega arith;
      header_kept = λ fine. log.header;
      kept_are = omega (arith, log-length (suc (length log.closed)) log.requests log.last log.is_log, ap length log.events_are, length-append log.before log.last);
      on_tape = subst (λ s. IsOnTape new.broken new.pending n log.closed text s) (sym all) (subst (λ x. MayBeOnTape new.broken new.pending x log.closed text (length text)) f there);
    }

pub log_kept : {E : Type 0} (result : Result (Unit {0}) E) (u : Unit {0}) (number : ℕ) (old new : Writing) (events : List Event) (kept : ℕ) → result ≡ Ok u → old.broken ≡ false
    → ((closed : List (List ℕ)) (text : List ℕ) (sure : ℕ) → Has old closed text sure → Keeps result new closed text sure) → HasLog old.broken number old events kept → HasLog new.broken number new events (length events)
log_kept (Err x) u number old new events kept is sound keeps log = absurd (cc (is))
log_kept (Ok x) u number old new events kept is sound keeps log = kept-on number old new old.holds new.holds events kept refl refl sound keeps log

same-on : (number : ℕ) (old new : Writing) (o n : Option TapeBytes) (events : List Event) (kept : ℕ) → old.holds ≡ o → new.holds ≡ n → old.broken ≡ false → Makes old new → MayBeLogOnTape old.broken number old.pending o events kept
    → MayBeLogOnTape new.broken number new.pending n events kept
same-on number old new o None events kept e f sound makes log = tt
same-on number old new None (Some n) events kept e f sound makes log =
    let none = unknown new _ _ 0 0 (makes [] [] 0 (has-none old [] [] 0 e)) (makes ([] ∷ []) [] 0 (has-none old ([] ∷ []) [] 0 e)) in
    absurd (cc (none, f))
same-on number old new (Some o) (Some n) events kept e f sound makes log =
    let text = spellings log.requests in
    let sure = length (spellings (take log.sure log.requests)) in
    let there : Has new log.closed text sure = makes log.closed text sure (subst (λ x. MayBeOnTape old.broken old.pending x log.closed text sure) (sym e) log.on_tape) in
    record {
      closed = log.closed;
      before = log.before;
      last = log.last;
      requests = log.requests;
      sure = log.sure;
      events_are = log.events_are;
      closed_are = log.closed_are;
      number_is = λ fine. log.number_is sound;
      spelled = log.spelled;
      is_log = log.is_log;
      header = log.header;
      within = log.within;
      header_kept = λ fine. log.header_kept sound;
      kept_are = log.kept_are;
      on_tape = subst (λ x. MayBeOnTape new.broken new.pending x log.closed text sure) f there;
    }

pub log_unkept : {E : Type 0} (result : Result (Unit {0}) E) (x : E) (number : ℕ) (old new : Writing) (events : List Event) (kept : ℕ) → result ≡ Err x → old.broken ≡ false
    → ((closed : List (List ℕ)) (text : List ℕ) (sure : ℕ) → Has old closed text sure → Keeps result new closed text sure) → HasLog old.broken number old events kept → HasLog new.broken number new events kept
log_unkept (Ok u) x number old new events kept is sound keeps log = absurd (cc (is))
log_unkept (Err y) x number old new events kept is sound keeps log = same-on number old new old.holds new.holds events kept refl refl sound keeps log

-- ---- a header is put

-- the words of a header after its name
abbrev behind : ℕ → List (List ℕ)
behind number = codes "2" ∷ decimal number ∷ decimal model_number ∷ []

decimal_length : (n : ℕ) → n < 2 ^ 64 → length (decimal n) ≤ 20
decimal_length n small = length-decimal-le 20 n (omega arith) (omega (arith, small)) small

sizes-behind : (number : ℕ) → number < 2 ^ 64 → AreSizes (map escaped (behind number))
sizes-behind number small =
    (omega (arith, escaped-short (codes "2")), (omega (arith, escaped-short (decimal number), decimal_length number small), (omega (arith, escaped-short (decimal model_number), decimal_length model_number (omega arith)), tt)))

pub header_spelled : (number : ℕ) → number < 2 ^ 64 → CanBeSpelled (header_words number)
header_spelled number small = can_be_spelled (codes "xs-log") (behind number) (omega arith) (sizes-behind number small) (omega (arith, escaped-short (codes "xs-log")))

header-on : (number k sure : ℕ) (old new : Writing) (o n : Option TapeBytes) (events : List Event) → old.holds ≡ o → new.holds ≡ n → old.broken ≡ false → number < 2 ^ 64
    → ((closed : List (List ℕ)) → Has old closed [] 0 → Has new closed (spelling (header_words number)) sure) → sure ≡ length (spellings (take k (header_words number ∷ []))) → k ≤ 1 → (new.broken ≡ false → 0 < k)
    → MayHaveClosedLogs number old.pending o events → MayBeLogOnTape new.broken number new.pending n events (length events)
header-on number k sure old new o None events e f sound small makes s le kept log = tt
header-on number k sure old new None (Some n) events e f sound small makes s le kept log =
    let none = unknown new _ _ _ _ (makes [] (has-none old [] [] 0 e)) (makes ([] ∷ []) (has-none old ([] ∷ []) [] 0 e)) in
    absurd (cc (none, f))
header-on number k sure old new (Some o) (Some n) events e f sound small makes s le kept log =
    let requests = header_words number ∷ [] in
    let whole : spelling (header_words number) ≡ spellings requests = sym (append-nil (spelling (header_words number))) in
    let first : Has old log.closed [] 0 = subst (λ x. MayBeOnTape old.broken old.pending x log.closed [] 0) (sym e) (subst (λ b. MayBeOnTape b old.pending (Some o) log.closed [] 0) (sym sound) log.on_tape) in
    let there : MayBeOnTape new.broken new.pending (Some n) log.closed (spelling (header_words number)) sure = subst (λ x. MayBeOnTape new.broken new.pending x log.closed (spelling (header_words number)) sure) f (makes log.closed first) in
    record {
      closed = log.closed;
      before = events;
      last = [];
      requests = requests;
      sure = k;
      events_are = sym (append-nil events);
      closed_are = log.closed_are;
      number_is = λ fine. log.number_is;
      spelled = (header_spelled number small, tt);
      is_log = (ap header_words log.number_is, tt);
      header = omega arith;
      within = le;
      header_kept = kept;
      kept_are = omega arith;
      on_tape = subst (λ x. IsOnTape new.broken new.pending n log.closed (spellings requests) x) s (subst (λ b. IsOnTape new.broken new.pending n log.closed b sure) whole there);
    }

-- the header was put, or a part of it
pub header_put : (number : ℕ) (old new : Writing) (events : List Event) → old.broken ≡ false → new.broken ≡ true → number < 2 ^ 64 → Puts old new (spelling (header_words number)) → AwaitsHeader number old events
    → HasLog new.broken number new events (length events)
header_put number old new events sound broken small puts log =
    header-on number 0 0 old new old.holds new.holds events refl refl sound small (λ closed has. puts.puts closed [] 0 has) refl (omega arith) (λ fine. absurd (cc (fine, broken))) log

pub header_kept : {E : Type 0} (result : Result (Unit {0}) E) (u : Unit {0}) (number : ℕ) (old between new : Writing) (events : List Event) → result ≡ Ok u → old.broken ≡ false → number < 2 ^ 64
    → Puts old between (spelling (header_words number)) → ((closed : List (List ℕ)) (text : List ℕ) (sure : ℕ) → Has between closed text sure → Keeps result new closed text sure) → AwaitsHeader number old events
    → HasLog new.broken number new events (length events)
header_kept (Err x) u number old between new events is sound small puts keeps log = absurd (cc (is))
header_kept (Ok x) u number old between new events is sound small puts keeps log =
    let header = spelling (header_words number) in
    let all : length header ≡ length (spellings (take 1 (header_words number ∷ []))) = ap length (sym (append-nil header)) in
    header-on number 1 (length header) old new old.holds new.holds events refl refl sound small (λ closed has. keeps closed header 0 (puts.puts closed [] 0 has)) all (omega arith) (λ fine. omega arith) log

pub header_unkept : {E : Type 0} (result : Result (Unit {0}) E) (x : E) (number : ℕ) (old between new : Writing) (events : List Event) → result ≡ Err x → old.broken ≡ false → new.broken ≡ true → number < 2 ^ 64
    → Puts old between (spelling (header_words number)) → ((closed : List (List ℕ)) (text : List ℕ) (sure : ℕ) → Has between closed text sure → Keeps result new closed text sure) → AwaitsHeader number old events
    → HasLog new.broken number new events (length events)
header_unkept (Ok u) x number old between new events is sound broken small puts keeps log = absurd (cc (is))
header_unkept (Err y) x number old between new events is sound broken small puts keeps log =
    let header = spelling (header_words number) in
    header-on number 0 0 old new old.holds new.holds events refl refl sound small (λ closed has. keeps closed header 0 (puts.puts closed [] 0 has)) refl (omega arith) (λ fine. absurd (cc (fine, broken))) log

-- a call has failed, and changed nothing
broken-on : (p : List ℕ) (o : Option TapeBytes) (closed : List (List ℕ)) (text more : List ℕ) (sure : ℕ) → MayBeOnTape false p o closed text sure → MayBeOnTape true p o closed (text ++ more) sure
broken-on p None closed text more sure h = tt
broken-on p (Some t) closed text more sure h = record {
  closed_is = h.closed_is;
  text_is = (p ++ more, sym (append_assoc t.written p more) ∙ ap (λ b. b ++ more) h.text_is);
  kept_is = h.kept_is;
  within = h.within;
}

pub header_missing : (number : ℕ) (p : List ℕ) (o : Option TapeBytes) (events : List Event) → number < 2 ^ 64 → MayHaveClosedLogs number p o events → MayBeLogOnTape true number p o events (length events)
header_missing number p None events small log = tt
header_missing number p (Some t) events small log = record {
  closed = log.closed;
  before = events;
  last = [];
  requests = header_words number ∷ [];
  sure = 0;
  events_are = sym (append-nil events);
  closed_are = log.closed_are;
  number_is = λ fine. log.number_is;
  spelled = (header_spelled number small, tt);
  is_log = (ap header_words log.number_is, tt);
  header = omega arith;
  within = omega arith;
  header_kept = λ fine. absurd (cc (fine));
  kept_are = omega arith;
  on_tape = broken-on p (Some t) log.closed [] (spellings (header_words number ∷ [])) 0 log.on_tape;
}

-- ---- the next log is begun

closed-more : (number : ℕ) (closed : List (List ℕ)) (before last : List Event) (bytes : List ℕ) → AreClosedLogs number closed before → IsClosedLog (number + length closed) bytes last
    → AreClosedLogs number (closed ++ bytes ∷ []) (before ++ last)
closed-more number [] before last bytes are is =
    let here : number + 0 ≡ number = omega arith in
    (last, [], subst (λ n. IsClosedLog n bytes last) here is, ap (λ es. es ++ last) are ∙ sym (append-nil last), refl)
closed-more number (one ∷ closed) before last bytes (first, more, one_is, joined, are) is =
    let here : number + suc (length closed) ≡ suc number + length closed = omega arith in (
      first,
      more ++ last,
      one_is,
      ap (λ es. es ++ last) joined ∙ append_assoc first more last,
      closed-more (suc number) closed more last bytes are (subst (λ n. IsClosedLog n bytes last) here is),
    )

is-closed : (number : ℕ) (requests : List (List (List ℕ))) (events : List Event) → 0 < length requests → AllByRecursion CanBeSpelled requests → IsLog number requests events → IsClosedLog number (spellings requests) events
is-closed number [] events some can is = absurd (omega (arith, some))
is-closed number (header ∷ records) events some can is = record { header = header; records = records; bytes_are = refl; spelled = can; is_log = is }

here-closed : (closed : List (List ℕ)) (requests : List (List (List ℕ))) (events : List Event) → 0 < length requests → AllByRecursion CanBeSpelled requests → IsLog (suc (length closed)) requests events
    → IsClosedLog (1 + length closed) (spellings requests) events
here-closed closed requests events some can is =
    let same : suc (length closed) ≡ 1 + length closed = omega arith in
    subst (λ n. IsClosedLog n (spellings requests) events) same (is-closed (suc (length closed)) requests events some can is)

-- all of a log is kept, if all of its events are
all-sure : (number : ℕ) (p : List ℕ) (t : TapeBytes) (events : List Event) (log : IsLogOnTape false number p t events (length events)) → log.sure ≡ length log.requests
all-sure number p t events log =
    let some : 0 < log.sure = log.header_kept refl in
    let events_length = ap length log.events_are in
    omega (arith, some, log.kept_are, log.within, log-length (suc (length log.closed)) log.requests log.last log.is_log, events_length, length-append log.before log.last)

whole-kept : (number : ℕ) (p : List ℕ) (t : TapeBytes) (events : List Event) (log : IsLogOnTape false number p t events (length events)) → IsOnTape false p t log.closed (spellings log.requests) (length (spellings log.requests))
whole-kept number p t events log =
    let all : take log.sure log.requests ≡ log.requests = take_all log.sure log.requests (omega (arith, all-sure number p t events log)) in
    subst (λ rs. IsOnTape false p t log.closed (spellings log.requests) (length (spellings rs))) all log.on_tape

begun-on : (number : ℕ) (old new : Writing) (o n : Option TapeBytes) (events : List Event) → old.holds ≡ o → new.holds ≡ n → old.broken ≡ false → new.broken ≡ false
    → ((closed : List (List ℕ)) (text : List ℕ) → Has old closed text (length text) → Has new (closed ++ text ∷ []) [] 0) → MayBeLogOnTape false number old.pending o events (length events)
    → MayHaveClosedLogs (number + 1) new.pending n events
begun-on number old new o None events e f sound fine closes log = tt
begun-on number old new None (Some n) events e f sound fine closes log =
    let none = unknown-on new.broken new.pending new.holds ([] ∷ []) ([] ∷ [] ∷ []) [] [] 0 0 (closes [] [] (has-none old [] [] 0 e)) (closes ([] ∷ []) [] (has-none old ([] ∷ []) [] 0 e)) (λ d. absurd (cc (d))) in
    absurd (cc (none, f))
begun-on number old new (Some o) (Some n) events e f sound fine closes log =
    let text = spellings log.requests in
    let first : Has old log.closed text (length text) = subst (λ x. MayBeOnTape old.broken old.pending x log.closed text (length text)) (sym e) (subst (λ b. MayBeOnTape b old.pending (Some o) log.closed text (length text)) (sym sound) (whole-kept number old.pending o events log)) in
    let there : MayBeOnTape new.broken new.pending (Some n) (log.closed ++ text ∷ []) [] 0 = subst (λ x. MayBeOnTape new.broken new.pending x (log.closed ++ text ∷ []) [] 0) f (closes log.closed text first) in
    let closed_are = closed-more 1 log.closed log.before log.last text log.closed_are (here-closed log.closed log.requests log.last log.header log.spelled log.is_log) in
    record {
      closed = log.closed ++ text ∷ [];
      closed_are = subst (λ es. AreClosedLogs 1 (log.closed ++ text ∷ []) es) (sym log.events_are) closed_are;
      number_is = omega (arith, log.number_is refl, length-append log.closed (text ∷ []));
      on_tape = subst (λ b. MayBeOnTape b new.pending (Some n) (log.closed ++ text ∷ []) [] 0) fine there;
    }

pub log_begun : {E : Type 0} (result : Result (Unit {0}) E) (u : Unit {0}) (number : ℕ) (old new : Writing) (events : List Event) → result ≡ Ok u → old.broken ≡ false → new.broken ≡ false
    → ((closed : List (List ℕ)) (text : List ℕ) → Has old closed text (length text) → Closes result new closed text) → HasLog false number old events (length events) → AwaitsHeader (number + 1) new events
log_begun (Err x) u number old new events is sound fine closes log = absurd (cc (is))
log_begun (Ok x) u number old new events is sound fine closes log = begun-on number old new old.holds new.holds events refl refl sound fine closes log

-- the next file, which is still empty
unheaded : (number : ℕ) (p : List ℕ) (t : TapeBytes) (closed : List (List ℕ)) (events : List Event) → length closed < 2 ^ 64 - 1 → AreClosedLogs 1 closed events → IsOnTape true p t closed [] 0 → IsLogOnTape true number p t events (length events)
unheaded number p t closed events small are tape = record {
  closed = closed;
  before = events;
  last = [];
  requests = header_words (suc (length closed)) ∷ [];
  sure = 0;
  events_are = sym (append-nil events);
  closed_are = are;
  number_is = λ fine. absurd (cc (fine));
  spelled = (header_spelled (suc (length closed)) (omega (arith, small)), tt);
  is_log = (refl, tt);
  header = omega arith;
  within = omega arith;
  header_kept = λ fine. absurd (cc (fine));
  kept_are = omega arith;
  on_tape = record {
    closed_is = tape.closed_is;
    text_is = (tape.text_is.0 ++ spellings (header_words (suc (length closed)) ∷ []), sym (append_assoc t.written tape.text_is.0 _) ∙ ap (λ b. b ++ spellings (header_words (suc (length closed)) ∷ [])) tape.text_is.1);
    kept_is = tape.kept_is;
    within = tape.within;
  };
}

-- a tape whose content isn't known has no closed files either
closed-unknown : (old new : Writing) → ((closed : List (List ℕ)) → Has new closed [] 0 ⊎ Has new (closed ++ [] ∷ []) [] 0) → new.holds ≡ None
closed-unknown old new has = elim (has []) [
  | inl h ↦ elim (has ([] ∷ [])) [
    | inl k ↦ differ [] ([] ∷ []) h k (λ d. absurd (cc (d)))
    | inr k ↦ differ [] ([] ∷ [] ∷ []) h k (λ d. absurd (cc (d)))
  ]
  | inr h ↦ elim (has ([] ∷ [] ∷ [])) [
    | inl k ↦ differ ([] ∷ []) ([] ∷ [] ∷ []) h k (λ d. absurd (cc (d)))
    | inr k ↦ differ ([] ∷ []) ([] ∷ [] ∷ [] ∷ []) h k (λ d. absurd (cc (d)))
  ]
]
  where
    differ : (a b : List (List ℕ)) → Has new a [] 0 → Has new b [] 0 → (a ≡ b → ⊥) → new.holds ≡ None
    differ a b h k d = unknown-on new.broken new.pending new.holds a b [] [] 0 0 h k d

pub closes_unknown : {E : Type 0} (result : Result (Unit {0}) E) (old new : Writing) → ((closed : List (List ℕ)) (text : List ℕ) → Has old closed text (length text) → Closes result new closed text) → old.holds ≡ None → new.holds ≡ None
closes_unknown (Ok u) old new closes e = closed-unknown old new (λ closed. inr (closes closed [] (has-none old closed [] 0 e)))
closes_unknown (Err x) old new closes e = closed-unknown old new (λ closed. closes closed [] (has-none old closed [] 0 e))

pub puts_unknown : (old new : Writing) (bytes : List ℕ) → Puts old new bytes → old.holds ≡ None → new.holds ≡ None
puts_unknown old new bytes puts e = unknown new _ _ 0 0 (puts.puts [] [] 0 (has-none old [] [] 0 e)) (puts.puts ([] ∷ []) [] 0 (has-none old ([] ∷ []) [] 0 e))

pub keeps_unknown : {E : Type 0} (result : Result (Unit {0}) E) (old new : Writing) → ((closed : List (List ℕ)) (text : List ℕ) (sure : ℕ) → Has old closed text sure → Keeps result new closed text sure) → old.holds ≡ None
    → new.holds ≡ None
keeps_unknown (Ok u) old new keeps e = unknown new _ _ 0 0 (keeps [] [] 0 (has-none old [] [] 0 e)) (keeps ([] ∷ []) [] 0 (has-none old ([] ∷ []) [] 0 e))
keeps_unknown (Err x) old new keeps e = unknown new _ _ 0 0 (keeps [] [] 0 (has-none old [] [] 0 e)) (keeps ([] ∷ []) [] 0 (has-none old ([] ∷ []) [] 0 e))

unbegun-on : (number : ℕ) (old new : Writing) (o n : Option TapeBytes) (events : List Event) → old.holds ≡ o → new.holds ≡ n → old.broken ≡ false → new.broken ≡ true → number + 1 < 2 ^ 64
    → ((closed : List (List ℕ)) (text : List ℕ) → Has old closed text (length text) → Has new closed text (length text) ⊎ Has new (closed ++ text ∷ []) [] 0) → MayBeLogOnTape false number old.pending o events (length events)
    → MayBeLogOnTape true number new.pending n events (length events)
unbegun-on number old new o None events e f sound broken small closes log = tt
unbegun-on number old new None (Some n) events e f sound broken small closes log =
    let none = closed-unknown old new (λ closed. closes closed [] (has-none old closed [] 0 e)) in
    absurd (cc (none, f))
unbegun-on number old new (Some o) (Some n) events e f sound broken small closes log =
    let text = spellings log.requests in
    let first : Has old log.closed text (length text) = subst (λ x. MayBeOnTape old.broken old.pending x log.closed text (length text)) (sym e) (subst (λ b. MayBeOnTape b old.pending (Some o) log.closed text (length text)) (sym sound) (whole-kept number old.pending o events log)) in
    let closed_are = closed-more 1 log.closed log.before log.last text log.closed_are (here-closed log.closed log.requests log.last log.header log.spelled log.is_log) in
    let there : (closed : List (List ℕ)) (text : List ℕ) (sure : ℕ) → Has new closed text sure → IsOnTape true new.pending n closed text sure =
    λ closed text sure h. subst (λ b. MayBeOnTape b new.pending (Some n) closed text sure) broken (subst (λ x. MayBeOnTape new.broken new.pending x closed text sure) f h) in
    elim (closes log.closed text first) [
      | inl same ↦ record {
        closed = log.closed;
        before = log.before;
        last = log.last;
        requests = log.requests;
        sure = length log.requests;
        events_are = log.events_are;
        closed_are = log.closed_are;
        number_is = λ fine. absurd (cc (fine));
        spelled = log.spelled;
        is_log = log.is_log;
        header = log.header;
        within = omega arith;
        header_kept = λ fine. absurd (cc (fine));
        kept_are = omega (arith, log-length (suc (length log.closed)) log.requests log.last log.is_log, ap length log.events_are, length-append log.before log.last);
        on_tape = subst (λ rs. IsOnTape true new.pending n log.closed text (length (spellings rs))) (sym (take_all (length log.requests) log.requests (omega arith))) (there log.closed text (length text) same);
      }
      | inr next ↦ unheaded number new.pending n (log.closed ++ text ∷ []) events (omega (arith, small, log.number_is refl, length-append log.closed (text ∷ [])))
          (subst (λ es. AreClosedLogs 1 (log.closed ++ text ∷ []) es) (sym log.events_are) closed_are) (there (log.closed ++ text ∷ []) [] 0 next)
    ]

pub log_unbegun : {E : Type 0} (result : Result (Unit {0}) E) (x : E) (number : ℕ) (old new : Writing) (events : List Event) → result ≡ Err x → old.broken ≡ false → new.broken ≡ true → number + 1 < 2 ^ 64
    → ((closed : List (List ℕ)) (text : List ℕ) → Has old closed text (length text) → Closes result new closed text) → HasLog false number old events (length events) → HasLog true number new events (length events)
log_unbegun (Ok u) x number old new events is sound broken small closes log = absurd (cc (is))
log_unbegun (Err y) x number old new events is sound broken small closes log = unbegun-on number old new old.holds new.holds events refl refl sound broken small closes log

-- ---- whether a call has failed

pub or_false : (a b : Bool) → (a || b) ≡ false → (a ≡ false) × (b ≡ false)
or_false true b e = absurd (cc (e))
or_false false b e = (refl, e)

pub with_failed : (failed b : Bool) (number : ℕ) (w : Writing) (events : List Event) (kept : ℕ) → failed ≡ false → HasLog b number w events kept → HasLog (failed || b) number w events kept
with_failed true b number w events kept e log = absurd (cc (e))
with_failed false b number w events kept e log = log

pub without_failed : (failed b : Bool) (number : ℕ) (w : Writing) (events : List Event) (kept : ℕ) → failed ≡ false → HasLog (failed || b) number w events kept → HasLog b number w events kept
without_failed true b number w events kept e log = absurd (cc (e))
without_failed false b number w events kept e log = log

fewer-by : (b other : Bool) (number count : ℕ) (p q : List ℕ) (o : Option TapeBytes) (new : Writing) (events : List Event) (kept : ℕ) → (o ≡ None → new.holds ≡ None) → MayBeLogOnTape other count q o events kept
    → HasLog b number new events (length events) → HasLog b number new events kept
fewer-by b other number count p q None new events kept none old log = log-none b number new events kept (none refl)
fewer-by b other number count p q (Some t) new events kept none old log =
    log-fewer-on b number new.pending new.holds events (length events) kept (log-within-on other count q t events kept old) log

pub log_fewer : (b other : Bool) (number count : ℕ) (old new : Writing) (events : List Event) (kept : ℕ) → (old.holds ≡ None → new.holds ≡ None) → HasLog other count old events kept → HasLog b number new events (length events)
    → HasLog b number new events kept
log_fewer b other number count old new events kept none first log = fewer-by b other number count new.pending old.pending old.holds new events kept none first log

pub match_any : {E : Type 0} (result : Result (Unit {0}) E) (All Part : Type 0) → All → Part → MatchResult result (λ _. All) (λ _. Part)
match_any (Ok u) All Part all part = all
match_any (Err e) All Part all part = part

-- ---- logs that are continued

logs-on : (number : ℕ) (p : List ℕ) (o : Option TapeBytes) (size : ℕ) (events : List Event) → p ≡ [] → IfSome o (λ tape. size ≡ length tape.written) → (size ≡ 0 → ⊥) → MayBeLogs number o events
    → MayBeLogOnTape false number p o events (length events)
logs-on number p None size events none is some logs = tt
logs-on number p (Some t) size events none is some logs =
    let text = spellings logs.requests in
    let written = logs.written_is in
    let all : length (spellings (take (length logs.requests) logs.requests)) ≡ length text = ap (λ rs. length (spellings rs)) (take_all (length logs.requests) logs.requests (omega arith)) in
    let header : 0 < length logs.requests = some-requests logs.requests (λ e. some (is ∙ ap length written ∙ ap (λ rs. length (spellings rs)) e)) in
    record {
      closed = t.closed;
      before = logs.before;
      last = logs.last;
      requests = logs.requests;
      sure = length logs.requests;
      events_are = logs.events_are;
      closed_are = logs.closed_are;
      number_is = λ fine. logs.number_is;
      spelled = logs.spelled;
      is_log = subst (λ n. IsLog n logs.requests logs.last) logs.number_is logs.is_log;
      header = header;
      within = omega arith;
      header_kept = λ fine. header;
      kept_are = omega (arith, log-length number logs.requests logs.last logs.is_log, ap length logs.events_are, length-append logs.before logs.last);
      on_tape = record {
        closed_is = refl;
        text_is = ap (λ x. t.written ++ x) none ∙ append-nil t.written ∙ written;
        kept_is = omega (arith, all, logs.kept_is, ap length written);
        within = omega (arith, logs.kept_is);
      };
    }
  where
    some-requests : (requests : List (List (List ℕ))) → (requests ≡ [] → ⊥) → 0 < length requests
    some-requests [] none = absurd (none refl)
    some-requests (h ∷ requests) none = omega arith

pub logs_go_on : (number size : ℕ) (w : Writing) (o : Option TapeBytes) (events : List Event) → w.broken ≡ false → w.holds ≡ o → w.pending ≡ [] → IfSome w.holds (λ tape. size ≡ length tape.written) → (size ≡ 0 → ⊥)
    → MayBeLogs number o events → HasLog w.broken number w events (length events)
logs_go_on number size w o events sound same none is some logs =
    subst (λ b. MayBeLogOnTape b number w.pending w.holds events (length events)) (sym sound) (logs-on number w.pending w.holds size events none is some (subst (λ x. MayBeLogs number x events) (sym same) logs))

-- an empty last log has no events yet
empty-on : (number : ℕ) (p : List ℕ) (o : Option TapeBytes) (size : ℕ) (events : List Event) → p ≡ [] → IfSome o (λ tape. size ≡ length tape.written) → size ≡ 0 → MayBeLogs number o events → MayHaveClosedLogs number p o events
empty-on number p None size events none is empty_size logs = tt
empty-on number p (Some t) size events none is empty_size logs =
    let empty : t.written ≡ [] = nil_from_length t.written (sym is ∙ empty_size) in
    let last : logs.last ≡ [] = no-events logs.requests logs.last (sym logs.written_is ∙ empty) logs.is_log in
    record {
      closed = t.closed;
      closed_are = subst (λ es. AreClosedLogs 1 t.closed es) (sym (logs.events_are ∙ ap (λ es. logs.before ++ es) last ∙ append-nil logs.before)) logs.closed_are;
      number_is = logs.number_is;
      on_tape = record {
        closed_is = refl;
        text_is = ap (λ x. t.written ++ x) none ∙ append-nil t.written ∙ empty;
        kept_is = omega arith;
        within = omega (arith, logs.kept_is);
      };
    }
  where
    no-events : (requests : List (List (List ℕ))) (events : List Event) → spellings requests ≡ [] → IsLog number requests events → events ≡ []
    no-events [] events e is = is
    no-events (h ∷ requests) events e is = absurd (cc (e))

pub awaits_header : (number size : ℕ) (w : Writing) (o : Option TapeBytes) (events : List Event) → w.holds ≡ o → w.pending ≡ [] → IfSome w.holds (λ tape. size ≡ length tape.written) → size ≡ 0 → MayBeLogs number o events
    → AwaitsHeader number w events
awaits_header number size w o events same none is empty_size logs =
    empty-on number w.pending w.holds size events none is empty_size (subst (λ x. MayBeLogs number x events) (sym same) logs)
