-- How a session goes on.
use Rattle.std.proofs.Common.{◌≡◌, ℕ, ◌<◌, ◌≤◌, Bool, true, false, not, ◌||◌, List, [], ◌∷◌, ◌++◌, length, drop, map, Option, Some, None}
use Rattle.std.proofs.Common.{Ok, Err, sym, ap, ◌∙◌, subst, refl, append_assoc, arith, inl, inr, length-append}
use Rattle.std.proofs.lemmas.List.{append-nil}
use Rattle.std.proofs.lemmas.Grind.{flat_map-append}
use Rattle.std.proofs.lemmas.List.Folds.{list_any-append}
use Rattle.xs_resp.specs.declared.fault.Fault.TheVariants.{Protocol}
use Rattle.xs_resp.specs.declared.reply.Reply.{Reply}
use Rattle.xs_resp.specs.declared.reply.Reply.TheVariants.{Error}
use Rattle.xs_resp.specs.declared.read_fault.ProtocolFault.{ProtocolFault}
use Rattle.xs_resp.specs.ReplyText.{text}
use Rattle.xs_resp.specs.Grammar.{SpellsAll, IsOpen}
use Rattle.xs_resp.specs.Reading.{request, words_in}
use Rattle.xs_resp.specs.declared.read_fault.ReadFault.{ReadFault}
use Rattle.xs_resp.specs.HeldBytes.{Held, Ready, ReadyOf, Skips, front_of, with_piece}
use Rattle.xs_resp.proofs.Decisions.{request-fault, request-open}
use Rattle.xs_resp.proofs.NextRequest.{took, IsNext, next-none, ready-front, ready-none, ready-wrong}
use Rattle.xs_command.specs.declared.command.Command.{Command}
use Rattle.xs_command.specs.declared.command.Command.TheVariants.{Quit}
use Rattle.xs_connection.specs.declared.standing.Standing.{Standing}
use Rattle.xs_connection.specs.Transaction.{released, released_of}
use Rattle.xs_connection.specs.declared.transaction.Transaction.TheVariants.{Released}
use Rattle.xs_session.specs.declared.manner.Manner.{Manner}
use Rattle.xs_session.specs.declared.manner.Manner.TheVariants.{Plain, Full}
use Rattle.xs_session.specs.declared.ending.Ending.{Ending}
use Rattle.xs_session.specs.declared.ending.Ending.TheVariants as ending
use Rattle.xs_session.specs.Strangers.{is_too_much}
use Rattle.xs_session.specs.declared.places.Place.{Place}
use Rattle.xs_session.specs.declared.places.Place.TheVariants.{Answer, Awaits}
use Rattle.xs_session.specs.Answers.{is_stranger, Taken, Asks, Informs, Says, IsTaken, IsRun, AreTaken, MayBeOpen, asked_of, answers_to, quits, has_quit}
use Rattle.xs_session.specs.Places.{has_open, fill_first}
use Rattle.xs_session.specs.declared.session.Session.{Session}
use Rattle.xs_session.specs.declared.session.Next.{Next}
use Rattle.xs_session.specs.declared.session.Next.TheVariants as next
use Rattle.xs_desk.specs.declared.answer.Call.{Call}
use Rattle.xs_resp.specs.LeftToWrite.{bytes_left}
use Rattle.xs_session.specs.Session.{texts, refusal, IsFault, IsWrong, Goes, IsFirst, IsAfter, SessionIsAfter, IsGathered, AsksOrWaits, ReleasesOrWaits, asked_in, ending_of}
use Rattle.xs_session.proofs.OpenCommands.{open-free, open-more, open-same}
use Rattle.xs_session.proofs.Answering.{IsAsking, taken-more, taken-same, taken-runs, asked-more, asked-same, answers-ask, answers-say, answers-got, open-fits, closed-fits}
use Rattle.xs_session.proofs.Placing.{begun-open, begun-fill, begun-more}

-- a command, if it is asked
abbrev pub asked_if : Bool → Command → List Command
asked_if true command = command ∷ []
asked_if false command = []

same-bytes : (held : Held) (a b : List ℕ) → held ≡ Ok a → held ≡ Ok b → a ≡ b
same-bytes held a b x y = cc

-- the request at the front is dropped
pub is-next : (held after : Held) (bytes : List ℕ) (words : List (List ℕ)) → held ≡ Ok bytes → words ≡ front_of held → Skips held after → IsNext bytes words after
is-next held after bytes words is are k =
    let same = same-bytes held k.bytes bytes k.holds is in
    let read : request bytes ≡ Ok (Some k.found) = ap request (sym same) ∙ k.read in
    record {
      found = k.found;
      read = read;
      words_are = sym (are ∙ ap front_of is ∙ ap words_in read);
      left = k.left ∙ ap (λ b. Ok (drop k.found.end b)) same;
    }

-- a fault is held
wrong-held : (old : Held) (bytes : List ℕ) (fault : ReadFault) (new : Held) (wrong : ProtocolFault) → old ≡ Ok bytes → request bytes ≡ Err wrong → Ready old (Err fault) new → new ≡ Err wrong
wrong-held old bytes fault new wrong is fails ready = (subst (λ o. ReadyOf bytes o (Err fault) new) fails (subst (λ h. Ready h (Err fault) new) is ready)).1

-- no complete request is held
pub waits-of : (old new : Held) → Ready old (Ok false) new → (bytes : List ℕ) × (new ≡ Ok bytes) × IsOpen bytes
waits-of (Ok bytes) new ready =
    let n = next-none (Ok bytes) bytes new refl (ready-none (Ok bytes) new ready) in
    (bytes, n.1, request-open bytes n.0)
waits-of (Err wrong) new (is, left) = cc

asked-refusal : (ended : Option Ending) (taken : List Taken) → asked_of (taken ++ refusal ended) ≡ asked_of taken
asked-refusal None taken = ap asked_of (append-nil taken)
asked-refusal (Some ending.Protocol) taken = asked-same taken (Error Protocol)
asked-refusal (Some ending.Closed) taken = ap asked_of (append-nil taken)
asked-refusal (Some ending.Cut) taken = ap asked_of (append-nil taken)
asked-refusal (Some ending.Quit) taken = ap asked_of (append-nil taken)

no-refusal : (command : Command) → refusal (ending_of command) ≡ []
no-refusal Quit = refl
no-refusal _ = refl

quit-more : (taken : List Taken) (one : Taken) → has_quit taken ≡ false → quits one ≡ false → has_quit (taken ++ one ∷ []) ≡ false
quit-more taken one none other = list_any-append quits taken (one ∷ []) ∙ ap (λ b. b || (quits one || false)) none ∙ ap (λ b. b || false) other

goes-command : (manner : Manner) (standing : Standing) (command : Command) (taken : List Taken) (rest : List ℕ) (held : Held) → held ≡ Ok rest → has_quit taken ≡ false
    → Goes manner standing (ending_of command) (taken ++ Asks command ∷ []) rest held
goes-command manner standing Quit taken rest held is none = (is, (taken, refl, none))
goes-command manner standing command taken rest held is none = (is, quit-more taken (Asks command) none refl)

goes-asks : (manner : Manner) (standing : Standing) (one : Taken) (command : Command) (place : Place) (taken : List Taken) (rest : List ℕ) (held : Held) → IsAsking one command place → held ≡ Ok rest → has_quit taken ≡ false
    → Goes manner standing (ending_of command) (taken ++ one ∷ []) rest held
goes-asks manner standing (Asks other) command place taken rest held (same, waits) is none =
    subst (λ (c : Command). Goes manner standing (ending_of c) (taken ++ Asks other ∷ []) rest held) (sym same) (goes-command manner standing other taken rest held is none)
goes-asks manner standing (Informs told) command place taken rest held (same, waits) is none =
    subst (λ (c : Command). Goes manner standing (ending_of c) (taken ++ Informs told ∷ []) rest held) (sym same) (is, quit-more taken (Informs told) none refl)
goes-asks manner standing (Says reply) command place taken rest held never is none = absurd never

fault-wrong : (manner : Manner) (standing : Standing) (rest : List ℕ) (held : Held) → IsFault rest held → IsWrong manner standing rest held
fault-wrong Plain standing rest held fault = fault
fault-wrong (Full wanted) standing rest held fault = inl fault

not-true : (b : Bool) → not b ≡ true → b ≡ false
not-true true is = cc
not-true false is = refl

much-wrong : (manner : Manner) (standing : Standing) (rest : List ℕ) (held : Held) → is_stranger manner standing ≡ true → held ≡ Ok rest → is_too_much held ≡ true → IsWrong manner standing rest held
much-wrong Plain standing rest held stranger is much = cc
much-wrong (Full wanted) standing rest held stranger is much = inr (is, not-true standing.is_allowed stranger, much)

-- a new connection has nothing to ask
first-none : (manner : Manner) (first : Standing) → IsFirst manner first → released_of first.transaction ≡ []
first-none Plain first is = ap released_of is
first-none (Full wanted) first is = ap (λ (s : Standing). released_of s.transaction) is

-- a look for a complete request changes nothing, unless there is a fault
pub ready-same : (old new : Held) (whole : Bool) → Ready old (Ok whole) new → new ≡ old
ready-same old new true ready = (ready-front old new ready).1
ready-same (Ok bytes) new false ready = (next-none (Ok bytes) bytes new refl (ready-none (Ok bytes) new ready)).1
ready-same (Err wrong) new false (is, left) = cc

texts-more : (begun : List Reply) (reply : Reply) → texts (begun ++ reply ∷ []) ≡ texts begun ++ text reply
texts-more begun reply = flat_map-append text begun (reply ∷ []) ∙ ap (λ t. texts begun ++ t) (append-nil (text reply))

module _ (manner : Manner) (standing : Standing) (read : List ℕ) (asked : List Command) (got : List Reply) (sent : List ℕ) where
  -- without an end
  answers-now : (held : Held) (places : List Place) (owed : List ℕ) (s : IsAfter manner standing read asked got sent None held places owed) → answers_to s.taken got ≡ map Answer s.begun ++ places
  answers-now held places owed s = ap (λ t. answers_to t got) (sym (append-nil s.taken)) ∙ s.answers

  -- one more command is asked: that of the next request, or one that EXEC has released
  asks-more : (next : Standing) (held after : Held) (places : List Place) (owed : List ℕ) (one : Taken) (command : Command) (place : Place) → IsAsking one command place → (s : IsAfter manner standing read asked got sent None held places owed)
      → (requests : List (List (List ℕ))) (front rest : List ℕ) → read ≡ front ++ rest → SpellsAll front requests → AreTaken manner s.first requests (s.taken ++ one ∷ []) next → after ≡ Ok rest
      → IsAfter manner next read (asked ++ command ∷ []) got sent (ending_of command) after (places ++ place ∷ []) owed
  asks-more next held after places owed one command place asking s requests front rest read_is spelled are_taken holds =
      let fits : length got ≤ length (asked_of s.taken) = subst (λ (a : List Command). length got ≤ length a) s.asked_is s.fits in
      record {
        requests = requests;
        front = front;
        rest = rest;
        read_is = read_is;
        spelled = spelled;
        taken = s.taken ++ one ∷ [];
        first = s.first;
        is_first = s.is_first;
        are_taken = are_taken;
        goes = goes-asks manner next one command place s.taken rest after asking holds s.goes.1;
        asked_is = ap (λ a. a ++ command ∷ []) s.asked_is ∙ sym (asked-more s.taken one command place asking);
        fits = omega (arith, s.fits, length-append asked (command ∷ []));
        begun = s.begun;
        answers =
            ap (λ r. answers_to ((s.taken ++ one ∷ []) ++ r) got) (no-refusal command)
            ∙ ap (λ t. answers_to t got) (append-nil (s.taken ++ one ∷ []))
            ∙ answers-ask s.taken got one command place asking fits
            ∙ ap (λ a. a ++ place ∷ []) (answers-now held places owed s)
            ∙ append_assoc (map Answer s.begun) places (place ∷ []);
        sent_is = s.sent_is;
      }

  -- one more answer is given at once
  says-more : (next : Standing) (held after : Held) (places : List Place) (owed : List ℕ) (reply : Reply) → (s : IsAfter manner standing read asked got sent None held places owed)
      → (requests : List (List (List ℕ))) (front rest : List ℕ) → read ≡ front ++ rest → SpellsAll front requests → AreTaken manner s.first requests (s.taken ++ Says reply ∷ []) next → after ≡ Ok rest
      → IsAfter manner next read asked got sent None after (places ++ Answer reply ∷ []) owed
  says-more next held after places owed reply s requests front rest read_is spelled are_taken holds = record {
    requests = requests;
    front = front;
    rest = rest;
    read_is = read_is;
    spelled = spelled;
    taken = s.taken ++ Says reply ∷ [];
    first = s.first;
    is_first = s.is_first;
    are_taken = are_taken;
    goes = (holds, quit-more s.taken (Says reply) s.goes.1 refl);
    asked_is = s.asked_is ∙ sym (asked-same s.taken reply);
    fits = s.fits;
    begun = s.begun;
    answers =
        ap (λ t. answers_to t got) (append-nil (s.taken ++ Says reply ∷ []))
        ∙ answers-say s.taken got reply
        ∙ ap (λ a. a ++ Answer reply ∷ []) (answers-now held places owed s)
        ∙ append_assoc (map Answer s.begun) places (Answer reply ∷ []);
    sent_is = s.sent_is;
  }

  -- the command of a request is asked
  pub after-asks : (next : Standing) (held after : Held) (places : List Place) (owed : List ℕ) (words : List (List ℕ)) (one : Taken) (command : Command) (place : Place) → IsAsking one command place → (s : IsAfter manner standing read asked got sent None held places owed)
      → IsNext s.rest words after → released_of standing.transaction ≡ [] → 0 < length words → IsTaken manner standing words one next
      → IsAfter manner next read (asked ++ command ∷ []) got sent (ending_of command) after (places ++ place ∷ []) owed
  after-asks next held after places owed words one command place asking s n nothing some is =
      let t = took read s.front s.rest s.requests n.found s.read_is s.spelled n.read in
      asks-more next held after places owed one command place asking s (s.requests ++ words ∷ []) (s.front ++ t.first) (drop n.found.end s.rest) t.read_is
      (subst (λ (w : List (List ℕ)). SpellsAll (s.front ++ t.first) (s.requests ++ w ∷ [])) n.words_are t.spelled)
      (taken-more manner s.first standing next s.requests s.taken words one nothing s.are_taken some is) n.left

  -- a request is answered at once
  after-says : (next : Standing) (held after : Held) (places : List Place) (owed : List ℕ) (words : List (List ℕ)) (reply : Reply) → (s : IsAfter manner standing read asked got sent None held places owed)
      → IsNext s.rest words after → released_of standing.transaction ≡ [] → 0 < length words → IsTaken manner standing words (Says reply) next
      → IsAfter manner next read asked got sent None after (places ++ Answer reply ∷ []) owed
  after-says next held after places owed words reply s n nothing some is =
      let t = took read s.front s.rest s.requests n.found s.read_is s.spelled n.read in
      says-more next held after places owed reply s (s.requests ++ words ∷ []) (s.front ++ t.first) (drop n.found.end s.rest) t.read_is
      (subst (λ (w : List (List ℕ)). SpellsAll (s.front ++ t.first) (s.requests ++ w ∷ [])) n.words_are t.spelled)
      (taken-more manner s.first standing next s.requests s.taken words (Says reply) nothing s.are_taken some is) n.left

  -- a request without words
  after-skips : (held after : Held) (places : List Place) (owed : List ℕ) (words : List (List ℕ)) → (s : IsAfter manner standing read asked got sent None held places owed)
      → IsNext s.rest words after → released_of standing.transaction ≡ [] → words ≡ [] → IsAfter manner standing read asked got sent None after places owed
  after-skips held after places owed words s n nothing none =
      let t = took read s.front s.rest s.requests n.found s.read_is s.spelled n.read in
      record {
        requests = s.requests ++ [] ∷ [];
        front = s.front ++ t.first;
        rest = drop n.found.end s.rest;
        read_is = t.read_is;
        spelled = subst (λ (w : List (List ℕ)). SpellsAll (s.front ++ t.first) (s.requests ++ w ∷ [])) (n.words_are ∙ none) t.spelled;
        taken = s.taken;
        first = s.first;
        is_first = s.is_first;
        are_taken = taken-same manner s.first standing s.requests s.taken nothing s.are_taken;
        goes = (n.left, s.goes.1);
        asked_is = s.asked_is;
        fits = s.fits;
        begun = s.begun;
        answers = s.answers;
        sent_is = s.sent_is;
      }

  -- a command that EXEC has released is asked
  after-runs : (held : Held) (places : List Place) (owed : List ℕ) (words : List (List ℕ)) (others : List (List (List ℕ))) (command : Command) → (s : IsAfter manner standing read asked got sent None held places owed)
      → standing.transaction ≡ Released (words ∷ others) → IsRun words (Asks command)
      → IsAfter manner (record standing { transaction = released others }) read (asked ++ command ∷ []) got sent (ending_of command) held (places ++ Awaits ∷ []) owed
  after-runs held places owed words others command s is runs =
      asks-more (record standing { transaction = released others }) held held places owed (Asks command) command Awaits (refl, refl) s s.requests s.front s.rest s.read_is s.spelled
      (taken-runs manner s.first standing s.requests s.taken words others (Asks command) (first-none manner s.first s.is_first) s.are_taken is runs) s.goes.0

  -- or answered
  after-run-says : (held : Held) (places : List Place) (owed : List ℕ) (words : List (List ℕ)) (others : List (List (List ℕ))) (reply : Reply) → (s : IsAfter manner standing read asked got sent None held places owed)
      → standing.transaction ≡ Released (words ∷ others) → IsRun words (Says reply)
      → IsAfter manner (record standing { transaction = released others }) read asked got sent None held (places ++ Answer reply ∷ []) owed
  after-run-says held places owed words others reply s is runs =
      says-more (record standing { transaction = released others }) held held places owed reply s s.requests s.front s.rest s.read_is s.spelled
      (taken-runs manner s.first standing s.requests s.taken words others (Says reply) (first-none manner s.first s.is_first) s.are_taken is runs) s.goes.0

  -- what is held isn't a request, or is too much
  after-refused : (held after : Held) (places : List Place) (owed : List ℕ) → (s : IsAfter manner standing read asked got sent None held places owed)
      → IsWrong manner standing s.rest after → IsAfter manner standing read asked got sent (Some ending.Protocol) after (places ++ Answer (Error Protocol) ∷ []) owed
  after-refused held after places owed s wrong = record {
    requests = s.requests;
    front = s.front;
    rest = s.rest;
    read_is = s.read_is;
    spelled = s.spelled;
    taken = s.taken;
    first = s.first;
    is_first = s.is_first;
    are_taken = s.are_taken;
    goes = (s.goes.1, wrong);
    asked_is = s.asked_is;
    fits = s.fits;
    begun = s.begun;
    answers =
        answers-say s.taken got (Error Protocol)
        ∙ ap (λ a. a ++ Answer (Error Protocol) ∷ []) (answers-now held places owed s)
        ∙ append_assoc (map Answer s.begun) places (Answer (Error Protocol) ∷ []);
    sent_is = s.sent_is;
  }

  -- nothing is asked
  asks-none : (next : Standing) (ended : Option Ending) (held : Held) (places : List Place) (owed : List ℕ) → IsAfter manner next read asked got sent ended held places owed → IsAfter manner next read (asked ++ []) got sent ended held places owed
  asks-none next ended held places owed s = subst (λ (a : List Command). IsAfter manner next read a got sent ended held places owed) (sym (append-nil asked)) s

  -- ---- steps of a session

  open-now : (ended : Option Ending) (held : Held) (places : List Place) (owed : List ℕ) → ended ≡ None → IsAfter manner standing read asked got sent ended held places owed → IsAfter manner standing read asked got sent None held places owed
  open-now ended held places owed going s = subst (λ (e : Option Ending). IsAfter manner standing read asked got sent e held places owed) going s

  pub step-asks : (next : Standing) (ended end : Option Ending) (held after : Held) (places later : List Place) (owed : List ℕ) (words : List (List ℕ)) (one : Taken) (command : Command) (place : Place) → IsAsking one command place → ended ≡ None → IsAfter manner standing read asked got sent ended held places owed
      → words ≡ front_of held → Skips held after → released_of standing.transaction ≡ [] → 0 < length words → IsTaken manner standing words one next → later ≡ places ++ place ∷ [] → end ≡ ending_of command
      → IsAfter manner next read (asked ++ command ∷ []) got sent end after later owed
  step-asks next ended end held after places later owed words one command place asking going s are skips nothing some is more ends =
      let s = open-now ended held places owed going s in
      let n = is-next held after s.rest words s.goes.0 are skips in
      subst (λ (e : Option Ending). IsAfter manner next read (asked ++ command ∷ []) got sent e after later owed) (sym ends)
      (subst (λ (p : List Place). IsAfter manner next read (asked ++ command ∷ []) got sent (ending_of command) after p owed) (sym more)
      (after-asks next held after places owed words one command place asking s n nothing some is))

  pub step-says : (next : Standing) (ended : Option Ending) (held after : Held) (places later : List Place) (owed : List ℕ) (words : List (List ℕ)) (reply : Reply) → ended ≡ None → IsAfter manner standing read asked got sent ended held places owed
      → words ≡ front_of held → Skips held after → released_of standing.transaction ≡ [] → 0 < length words → IsTaken manner standing words (Says reply) next → later ≡ places ++ Answer reply ∷ []
      → IsAfter manner next read (asked ++ []) got sent ended after later owed
  step-says next ended held after places later owed words reply going s are skips nothing some is more =
      let s = open-now ended held places owed going s in
      let n = is-next held after s.rest words s.goes.0 are skips in
      asks-none next ended after later owed
      (subst (λ (e : Option Ending). IsAfter manner next read asked got sent e after later owed) (sym going)
      (subst (λ (p : List Place). IsAfter manner next read asked got sent None after p owed) (sym more)
      (after-says next held after places owed words reply s n nothing some is)))

  pub step-skips : (ended : Option Ending) (held after : Held) (places : List Place) (owed : List ℕ) (words : List (List ℕ)) → ended ≡ None → IsAfter manner standing read asked got sent ended held places owed
      → words ≡ front_of held → Skips held after → released_of standing.transaction ≡ [] → words ≡ [] → IsAfter manner standing read (asked ++ []) got sent ended after places owed
  step-skips ended held after places owed words going s are skips nothing none =
      let s = open-now ended held places owed going s in
      let n = is-next held after s.rest words s.goes.0 are skips in
      asks-none standing ended after places owed
      (subst (λ (e : Option Ending). IsAfter manner standing read asked got sent e after places owed) (sym going) (after-skips held after places owed words s n nothing none))

  pub step-runs : (ended end : Option Ending) (held after : Held) (places later : List Place) (owed : List ℕ) (next : Standing) (words : List (List ℕ)) (others : List (List (List ℕ))) (command : Command) → ended ≡ None
      → IsAfter manner standing read asked got sent ended held places owed → standing.transaction ≡ Released (words ∷ others) → IsRun words (Asks command) → next ≡ (let x : Standing = record standing { transaction = released others } in x)
      → after ≡ held → later ≡ places ++ Awaits ∷ [] → end ≡ ending_of command → IsAfter manner next read (asked ++ command ∷ []) got sent end after later owed
  step-runs ended end held after places later owed next words others command going s is runs then same more ends =
      let s = open-now ended held places owed going s in
      subst (λ (e : Option Ending). IsAfter manner next read (asked ++ command ∷ []) got sent e after later owed) (sym ends)
      (subst (λ (h : Held). IsAfter manner next read (asked ++ command ∷ []) got sent (ending_of command) h later owed) (sym same)
      (subst (λ (p : List Place). IsAfter manner next read (asked ++ command ∷ []) got sent (ending_of command) held p owed) (sym more)
      (subst (λ (n : Standing). IsAfter manner n read (asked ++ command ∷ []) got sent (ending_of command) held (places ++ Awaits ∷ []) owed) (sym then)
      (after-runs held places owed words others command s is runs))))

  pub step-run-says : (ended : Option Ending) (held : Held) (places later : List Place) (owed : List ℕ) (next : Standing) (words : List (List ℕ)) (others : List (List (List ℕ))) (reply : Reply) → ended ≡ None
      → IsAfter manner standing read asked got sent ended held places owed → standing.transaction ≡ Released (words ∷ others) → IsRun words (Says reply) → next ≡ (let x : Standing = record standing { transaction = released others } in x)
      → later ≡ places ++ Answer reply ∷ [] → IsAfter manner next read (asked ++ []) got sent ended held later owed
  step-run-says ended held places later owed next words others reply going s is runs then more =
      let s = open-now ended held places owed going s in
      asks-none next ended held later owed
      (subst (λ (e : Option Ending). IsAfter manner next read asked got sent e held later owed) (sym going)
      (subst (λ (p : List Place). IsAfter manner next read asked got sent None held p owed) (sym more)
      (subst (λ (n : Standing). IsAfter manner n read asked got sent None held (places ++ Answer reply ∷ []) owed) (sym then)
      (after-run-says held places owed words others reply s is runs))))

  pub step-refused : (ended : Option Ending) (held after : Held) (places later : List Place) (owed : List ℕ) (fault : ReadFault) → ended ≡ None → IsAfter manner standing read asked got sent ended held places owed
      → Ready held (Err fault) after → later ≡ places ++ Answer (Error Protocol) ∷ [] → IsAfter manner standing read (asked ++ []) got sent (Some ending.Protocol) after later owed
  step-refused ended held after places later owed fault going s ready more =
      let s = open-now ended held places owed going s in
      let wrong = ready-wrong held s.rest fault after s.goes.0 ready in
      asks-none standing (Some ending.Protocol) after later owed
      (subst (λ (p : List Place). IsAfter manner standing read asked got sent (Some ending.Protocol) after p owed) (sym more)
      (after-refused held after places owed s (fault-wrong manner standing s.rest after (wrong.0, request-fault s.rest wrong.0 wrong.1, wrong-held held s.rest fault after wrong.0 s.goes.0 wrong.1 ready))))

  -- a client that hasn't given the password has sent too much
  pub step-much : (ended : Option Ending) (held after : Held) (places later : List Place) (owed : List ℕ) → ended ≡ None → IsAfter manner standing read asked got sent ended held places owed
      → after ≡ held → is_stranger manner standing ≡ true → is_too_much after ≡ true → later ≡ places ++ Answer (Error Protocol) ∷ []
      → IsAfter manner standing read (asked ++ []) got sent (Some ending.Protocol) after later owed
  step-much ended held after places later owed going s same stranger much more =
      let s = open-now ended held places owed going s in
      asks-none standing (Some ending.Protocol) after later owed
      (subst (λ (p : List Place). IsAfter manner standing read asked got sent (Some ending.Protocol) after p owed) (sym more)
      (after-refused held after places owed s (much-wrong manner standing s.rest after stranger (same ∙ s.goes.0) much)))

  -- a reply has come
  pub after-answered : (ended : Option Ending) (held : Held) (places : List Place) (owed : List ℕ) (reply : Reply) → IsAfter manner standing read asked got sent ended held places owed → has_open places ≡ true
      → IsAfter manner standing read asked (got ++ reply ∷ []) sent ended held (fill_first reply places) owed
  after-answered ended held places owed reply s still =
      let all = s.taken ++ refusal ended in
      let waits : has_open (answers_to all got) ≡ true = ap has_open s.answers ∙ begun-open s.begun places ∙ still in
      let few = open-fits all got waits in
      let count : length (asked_of all) ≡ length asked = ap length (asked-refusal ended s.taken ∙ sym s.asked_is) in
      record {
        requests = s.requests;
        front = s.front;
        rest = s.rest;
        read_is = s.read_is;
        spelled = s.spelled;
        taken = s.taken;
        first = s.first;
        is_first = s.is_first;
        are_taken = s.are_taken;
        goes = s.goes;
        asked_is = s.asked_is;
        fits = omega (arith, few, count, length-append got (reply ∷ []));
        begun = s.begun;
        answers = answers-got all got reply waits ∙ ap (fill_first reply) s.answers ∙ begun-fill s.begun places reply;
        sent_is = s.sent_is;
      }

  -- an answer is begun
  pub after-begun : (ended : Option Ending) (held : Held) (places later : List Place) (owed now : List ℕ) (reply : Reply) → IsAfter manner standing read asked got sent ended held places owed
      → places ≡ Answer reply ∷ later → now ≡ owed ++ text reply → IsAfter manner standing read asked got sent ended held later now
  after-begun ended held places later owed now reply s is more = record {
    requests = s.requests;
    front = s.front;
    rest = s.rest;
    read_is = s.read_is;
    spelled = s.spelled;
    taken = s.taken;
    first = s.first;
    is_first = s.is_first;
    are_taken = s.are_taken;
    goes = s.goes;
    asked_is = s.asked_is;
    fits = s.fits;
    begun = s.begun ++ reply ∷ [];
    answers = s.answers ∙ ap (λ p. map Answer s.begun ++ p) is ∙ begun-more s.begun later reply;
    sent_is = texts-more s.begun reply ∙ ap (λ t. t ++ text reply) s.sent_is ∙ append_assoc sent owed (text reply) ∙ ap (λ o. sent ++ o) (sym more);
  }

  -- the front of the unsent bytes is sent
  pub after-sent : (ended : Option Ending) (held : Held) (places : List Place) (owed front behind : List ℕ) → IsAfter manner standing read asked got sent ended held places owed
      → owed ≡ front ++ behind → IsAfter manner standing read asked got (sent ++ front) ended held places behind
  after-sent ended held places owed front behind s is = record {
    requests = s.requests;
    front = s.front;
    rest = s.rest;
    read_is = s.read_is;
    spelled = s.spelled;
    taken = s.taken;
    first = s.first;
    is_first = s.is_first;
    are_taken = s.are_taken;
    goes = s.goes;
    asked_is = s.asked_is;
    fits = s.fits;
    begun = s.begun;
    answers = s.answers;
    sent_is = s.sent_is ∙ ap (λ o. sent ++ o) is ∙ sym (append_assoc sent front behind);
  }

  -- more is read
  pub after-read : (ended : Option Ending) (held later : Held) (places : List Place) (owed more : List ℕ) → ended ≡ None → later ≡ with_piece held more → IsAfter manner standing read asked got sent ended held places owed
      → IsAfter manner standing (read ++ more) asked got sent ended later places owed
  after-read ended held later places owed more going is s =
      let s = open-now ended held places owed going s in
      subst (λ (e : Option Ending). IsAfter manner standing (read ++ more) asked got sent e later places owed) (sym going) (record {
        requests = s.requests;
        front = s.front;
        rest = s.rest ++ more;
        read_is = ap (λ r. r ++ more) s.read_is ∙ append_assoc s.front s.rest more;
        spelled = s.spelled;
        taken = s.taken;
        first = s.first;
        is_first = s.is_first;
        are_taken = s.are_taken;
        goes = (is ∙ ap (λ h. with_piece h more) s.goes.0, s.goes.1);
        asked_is = s.asked_is;
        fits = s.fits;
        begun = s.begun;
        answers = s.answers;
        sent_is = s.sent_is;
      })

-- as many replies have come as commands were asked, if none is waited for
pub after-even : (manner : Manner) (standing : Standing) (read : List ℕ) (asked : List Command) (got : List Reply) (sent : List ℕ) (ended : Option Ending) (held : Held) (places : List Place) (owed : List ℕ)
    → IsAfter manner standing read asked got sent ended held places owed → has_open places ≡ false → length got ≡ length asked
after-even manner standing read asked got sent ended held places owed s closed =
    let all = s.taken ++ refusal ended in
    let none : has_open (answers_to all got) ≡ false = ap has_open s.answers ∙ begun-open s.begun places ∙ closed in
    let count : length (asked_of all) ≡ length asked = ap length (asked-refusal ended s.taken ∙ sym s.asked_is) in
    omega (arith, s.fits, closed-fits all got none, count)

-- nothing is taken yet
pub after-new : (manner : Manner) (standing : Standing) (bytes : List ℕ) (ended : Option Ending) (held : Held) (places : List Place) (owed : List ℕ) → ended ≡ None → held ≡ Ok bytes → places ≡ [] → owed ≡ [] → IsFirst manner standing → IsAfter manner standing bytes [] [] [] ended held places owed
after-new manner standing bytes ended held places owed going is empty all new = subst (λ (e : Option Ending). IsAfter manner standing bytes [] [] [] e held places owed) (sym going) (record {
  requests = [];
  front = [];
  rest = bytes;
  read_is = refl;
  spelled = refl;
  taken = [];
  first = standing;
  is_first = new;
  are_taken = (refl, refl);
  goes = (is, refl);
  asked_is = refl;
  fits = omega arith;
  begun = [];
  answers = sym empty;
  sent_is = sym all;
})

none-open : (alone : Bool) → MayBeOpen alone []
none-open true = inl tt
none-open false = tt

pub session-new : (manner : Manner) (bytes : List ℕ) (session : Session) → session.ended ≡ None → session.requests ≡ Ok bytes → session.places ≡ [] → bytes_left session.owed ≡ [] → IsFirst manner session.standing → SessionIsAfter manner bytes [] [] [] session
session-new manner bytes session going is places owed new = (after-new manner session.standing bytes session.ended session.requests session.places (bytes_left session.owed) going is places owed new, none-open session.alone)

-- ---- steps of a complete session

module _ (manner : Manner) (read : List ℕ) (asked : List Command) (got : List Reply) (sent : List ℕ) where
  -- if no answer is waited for, what waits is alone or not
  pub session-goes : (old new : Session) → SessionIsAfter manner read asked got sent old → new ≡ (let x : Session = record old { alone = false } in x) → (old.alone ≡ true → IsGathered old)
      → SessionIsAfter manner read asked got sent new
  session-goes old new s is settled =
      let even : (old.places ≡ []) → length asked ≤ length got = λ none. let e = after-even manner old.standing read asked got sent old.ended old.requests old.places (bytes_left old.owed) s.0 (ap has_open none) in omega (arith, e) in
      subst (λ (x : Session). SessionIsAfter manner read asked got sent x) (sym is) (s.0, open-free old.alone (length got) asked s.1 (λ alone. even (settled alone).0))

  pub session-closed : (session : Session) → SessionIsAfter manner read asked got sent session → has_open session.places ≡ false → length asked ≤ length got
  session-closed session s closed =
      let even = after-even manner session.standing read asked got sent session.ended session.requests session.places (bytes_left session.owed) s.0 closed in
      omega (arith, even)

  -- the command of the request at the front is asked, or has to wait
  pub session-asked : (old new : Session) (command : Command) (one : Taken) (place : Place) (goes : Bool) (words : List (List ℕ)) → IsAsking one command place → old.ended ≡ None → old.alone ≡ false → words ≡ front_of old.requests → released_of old.standing.transaction ≡ [] → 0 < length words
      → IsTaken manner old.standing words one old.standing → new.owed ≡ old.owed → AsksOrWaits old command place goes new → SessionIsAfter manner read asked got sent old
      → SessionIsAfter manner read (asked ++ asked_if goes command) got sent new
  session-asked old new command one place true words asking going several are nothing some is owed asks s =
      let after = step-asks manner old.standing read asked got sent old.standing old.ended new.ended old.requests new.requests old.places new.places (bytes_left old.owed) words one command place asking going s.0 are asks.skips nothing some is asks.places asks.ended in
      let waiting = open-more new.alone (length got) asked command s.0.fits (subst (λ (b : Bool). MayBeOpen b (drop (length got) asked)) several s.1) asks.alone
      (λ alone. session-closed old s (ap has_open (asks.gathered alone).0)) in (
        subst (λ (o : List ℕ). IsAfter manner new.standing read (asked ++ command ∷ []) got sent new.ended new.requests new.places o) (sym (ap bytes_left owed))
            (subst (λ (n : Standing). IsAfter manner n read (asked ++ command ∷ []) got sent new.ended new.requests new.places (bytes_left old.owed)) (sym asks.standing) after),
        waiting,
      )
  session-asked old new command one place false words asking going several are nothing some is owed same s =
      subst (λ (a : List Command). SessionIsAfter manner read a got sent new) (sym (append-nil asked))
      (subst (λ (n : Session). SessionIsAfter manner read asked got sent n) (sym same) (s.0, inl (subst (λ (b : Bool). MayBeOpen b (drop (length got) asked)) several s.1)))

  -- a request is answered at once
  pub session-says : (old new : Session) (later : Standing) (reply : Reply) (result : Next) (words : List (List ℕ)) → old.ended ≡ None → words ≡ front_of old.requests → released_of old.standing.transaction ≡ [] → 0 < length words
      → IsTaken manner old.standing words (Says reply) later → Skips old.requests new.requests → result ≡ next.Goes
      → new ≡ (let x : Session = record old { standing = later; requests = new.requests; places = old.places ++ Answer reply ∷ [] } in x) → SessionIsAfter manner read asked got sent old
      → SessionIsAfter manner read (asked ++ asked_in result) got sent new
  session-says old new later reply result words going are nothing some is skips goes after s =
      let said = step-says manner old.standing read asked got sent later old.ended old.requests new.requests old.places (old.places ++ Answer reply ∷ []) (bytes_left old.owed) words reply going s.0 are skips nothing some is refl in
      subst (λ (t : Next). SessionIsAfter manner read (asked ++ asked_in t) got sent new) (sym goes)
      (subst (λ (n : Session). SessionIsAfter manner read (asked ++ []) got sent n) (sym after) (said, open-same old.alone (length got) asked s.1))

  -- a command that EXEC has released is asked, or has to wait
  pub session-released : (old new : Session) (command : Command) (step : Next) → old.ended ≡ None → old.alone ≡ false → new.owed ≡ old.owed → ReleasesOrWaits old command step new → SessionIsAfter manner read asked got sent old
      → SessionIsAfter manner read (asked ++ asked_in step) got sent new
  session-released old new command step going several owed (inl asks) s =
      let after = step-runs manner old.standing read asked got sent old.ended new.ended old.requests new.requests old.places new.places (bytes_left old.owed) new.standing asks.words asks.others command going s.0 asks.released_is asks.said asks.standing asks.held asks.places asks.ended in
      let waiting = open-more new.alone (length got) asked command s.0.fits (subst (λ (b : Bool). MayBeOpen b (drop (length got) asked)) several s.1) asks.alone
      (λ alone. session-closed old s (ap has_open (asks.gathered alone).0)) in
      subst (λ (t : Next). SessionIsAfter manner read (asked ++ asked_in t) got sent new) (sym asks.asks)
      (subst (λ (c : Command). SessionIsAfter manner read (asked ++ c ∷ []) got sent new) (sym asks.call_is) (
        subst (λ (o : List ℕ). IsAfter manner new.standing read (asked ++ command ∷ []) got sent new.ended new.requests new.places o) (sym (ap bytes_left owed)) after,
        waiting,
      ))
  session-released old new command step going several owed (inr (full, same)) s =
      subst (λ (t : Next). SessionIsAfter manner read (asked ++ asked_in t) got sent new) (sym full)
      (subst (λ (a : List Command). SessionIsAfter manner read a got sent new) (sym (append-nil asked))
      (subst (λ (n : Session). SessionIsAfter manner read asked got sent n) (sym same) (s.0, inl (subst (λ (b : Bool). MayBeOpen b (drop (length got) asked)) several s.1))))

  -- or it is answered
  pub session-run-says : (old : Session) (places : List Place) (next : Standing) (words : List (List ℕ)) (others : List (List (List ℕ))) (reply : Reply) → old.ended ≡ None
      → old.standing.transaction ≡ Released (words ∷ others) → IsRun words (Says reply) → next ≡ (let x : Standing = record old.standing { transaction = released others } in x) → places ≡ old.places ++ Answer reply ∷ []
      → SessionIsAfter manner read asked got sent old → IsAfter manner next read (asked ++ []) got sent old.ended old.requests places (bytes_left old.owed) × MayBeOpen old.alone (drop (length got) (asked ++ []))
  session-run-says old places next words others reply going is runs then more s = (
    step-run-says manner old.standing read asked got sent old.ended old.requests old.places places (bytes_left old.owed) next words others reply going s.0 is runs then more,
    open-same old.alone (length got) asked s.1,
  )

  -- the protocol error is the last answer
  pub session-refused : (old new : Session) (held : Held) (result : Next) → new ≡ (let x : Session = record old { requests = held; places = old.places ++ Answer (Error Protocol) ∷ []; ended = Some ending.Protocol } in x)
      → result ≡ next.Ends ending.Protocol → MayBeOpen old.alone (drop (length got) asked)
      → IsAfter manner old.standing read (asked ++ []) got sent (Some ending.Protocol) held (old.places ++ Answer (Error Protocol) ∷ []) (bytes_left old.owed)
      → SessionIsAfter manner read (asked ++ asked_in result) got sent new
  session-refused old new held result is ends few after =
      subst (λ (t : Next). SessionIsAfter manner read (asked ++ asked_in t) got sent new) (sym ends)
      (subst (λ (n : Session). SessionIsAfter manner read (asked ++ []) got sent n) (sym is) (after, open-same old.alone (length got) asked few))
