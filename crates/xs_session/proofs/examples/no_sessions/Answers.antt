use Rattle.std.specs.Prelude.{◌≡◌, ◌||◌, ℕ, true, false, List, [], ◌∷◌, ◌++◌, map, codes, Option, Some, None, Ok, Err}
use Rattle.std.specs.List.{list_any}
use Rattle.std.proofs.Common.{refl, sym, ap, ◌∙◌, subst, arith, append_assoc, inl, inr}
use Rattle.std.proofs.lemmas.List.{append-nil}
use Rattle.xs_resp.specs.declared.fault.Fault.{Fault}
use Rattle.xs_resp.specs.declared.fault.Fault.TheVariants.{Protocol, Memory}
use Rattle.xs_resp.specs.declared.read_fault.ProtocolFault.{ProtocolFault}
use Rattle.xs_resp.specs.declared.read_fault.ProtocolFault.TheVariants.{Shape}
use Rattle.xs_resp.specs.declared.reply.Reply.{Reply}
use Rattle.xs_resp.specs.declared.reply.Reply.TheVariants.{Simple, Error, Int}
use Rattle.xs_resp.specs.declared.reply.Simple.TheVariants.{Pong}
use Rattle.xs_resp.specs.Examples.{wire}
use Rattle.xs_resp.specs.Grammar.{SpellsAll, FaultIn}
use Rattle.xs_resp.specs.ReplyText.{text}
use Rattle.xs_resp.proofs.Computing as resp
use Rattle.xs_resp.proofs.Decisions.{request-fault, request-open, fault-request}
use Rattle.xs_command.specs.declared.command.Command.{Command}
use Rattle.xs_command.specs.declared.command.Command.TheVariants.{Quit}
use Rattle.xs_command.specs.Examples.{line}
use Rattle.xs_command.proofs.Computing.{example_functions}
use Rattle.xs_session.specs.declared.ending.Ending.{Ending}
use Rattle.xs_session.specs.declared.ending.Ending.TheVariants as ending
use Rattle.xs_connection.specs.declared.standing.Standing.{Standing}
use Rattle.xs_session.specs.declared.manner.Manner.TheVariants.{Plain}
use Rattle.xs_session.specs.declared.places.Place.{Place}
use Rattle.xs_session.specs.declared.places.Place.TheVariants.{Answer, Awaits}
use Rattle.xs_session.specs.Answers.{Taken, Asks, Informs, Says, asked_of, answers_to, quits, has_quit}
use Rattle.xs_session.specs.Session.{Goes, texts}
use Rattle.xs_session.specs.Examples.{ping, len, anyone}
use Rattle.xs_session.specs.ExamplesSessions.{bytes_of_ping, bytes_of_len, bytes_of_get}
use Rattle.xs_session.proofs.Answering.{asked-more}
use Rattle.xs_session.proofs.PlainRequests.{IsTakenPlainly, AreTakenPlainly, all-plainly}
use Rattle.xs_session.proofs.ReadOnce.{BeginsNone, fault-begins, read-once}
use Rattle.xs_session.proofs.SpelledExamples.{spelled-ping, spelled-len, spelled-get, spelled-none}
use Rattle.xs_session.proofs.examples.no_sessions.Goals as goal

nothing-begins : BeginsNone []
unfolding resp.example_functions
nothing-begins = (request-open [] refl).0

-- what was sent begins with the first answer
sent-first : (answer : Place) (others : List Place) (begun : List Reply) (places : List Place) (byte : ℕ) (more : List ℕ)
    → answer ∷ others ≡ map Answer begun ++ places → texts begun ≡ byte ∷ more → (reply : Reply) × (behind : List ℕ) × (answer ≡ Answer reply) × (text reply ++ behind ≡ byte ∷ more)
sent-first answer others [] places byte more is e = absurd (cc (e))
sent-first answer others (reply ∷ begun) places byte more is e = (reply, texts begun, cc, e)

-- nothing is sent while the first answer is waited for
waits : (others : List Place) (begun : List Reply) (places : List Place) (byte : ℕ) (more : List ℕ) → Awaits ∷ others ≡ map Answer begun ++ places → texts begun ≡ byte ∷ more → ⊥
waits others begun places byte more is e = let first = (sent-first Awaits others begun places byte more is e).2 in cc

nothing-sent : (begun : List Reply) (places : List Place) (byte : ℕ) (more : List ℕ) → [] ≡ map Answer begun ++ places → texts begun ≡ byte ∷ more → ⊥
nothing-sent [] places byte more is e = cc
nothing-sent (reply ∷ begun) places byte more is e = cc

-- an error's text begins with its marker
error-first : (fault : Fault) (others : List Place) (begun : List Reply) (places : List Place) (byte : ℕ) (more : List ℕ)
    → Answer (Error fault) ∷ others ≡ map Answer begun ++ places → texts begun ≡ byte ∷ more → 45 ≡ byte
unfolding text
error-first fault others begun places byte more is e =
    let first = sent-first (Answer (Error fault)) others begun places byte more is e in
    let reply : Error fault ≡ first.0 = cc in
    let whole : text (Error fault) ++ first.1 ≡ byte ∷ more = ap (λ r. text r ++ first.1) reply ∙ first.3 in cc

-- a session that goes on and holds nothing has taken all requests that were read
taken-are : (last : Standing) (read front rest : List ℕ) (requests known : List (List (List ℕ))) (taken : List Taken) → SpellsAll front requests → AreTakenPlainly requests taken → SpellsAll read known → read ≡ front ++ rest
    → Goes Plain last None taken rest (Ok []) → AreTakenPlainly known taken
taken-are last read front rest requests known taken spelled are all is goes =
    let none : [] ≡ rest = cc in
    let once = read-once front rest read [] requests known spelled (subst BeginsNone none nothing-begins) all nothing-begins (sym is ∙ sym (append-nil read)) in
    subst (λ r. AreTakenPlainly r taken) once.0 are

one-of : (taken : List Taken) (word : List ℕ) (words : List (List ℕ)) → AreTakenPlainly ((word ∷ words) ∷ []) taken → (first : Taken) × (taken ≡ first ∷ []) × IsTakenPlainly (word ∷ words) first
one-of taken word words (first, others, is, so, none) = (first, is ∙ ap (λ o. first ∷ o) none, so)

both-of : (taken : List Taken) (word name : List ℕ) (words names : List (List ℕ)) → AreTakenPlainly ((word ∷ words) ∷ (name ∷ names) ∷ []) taken
    → (first : Taken) × (second : Taken) × (taken ≡ first ∷ second ∷ []) × IsTakenPlainly (word ∷ words) first × IsTakenPlainly (name ∷ names) second
both-of taken word name words names (first, others, is, so, rest) =
    let last = one-of others name names rest in (first, last.0, is ∙ ap (λ o. first ∷ o) last.1, so, last.2)

-- an answer that is there at once is an error
says-error : (words : List (List ℕ)) (reply : Reply) → IsTakenPlainly words (Says reply) → (fault : Fault) × (reply ≡ Error fault)
says-error words reply (inl (fault, is, said)) = (fault, said)
says-error words reply (inr memory) = (Memory, memory)

-- nothing is asked for bytes that aren't a request yet
none-asked : (read front rest : List ℕ) (requests : List (List (List ℕ))) (taken : List Taken) → BeginsNone read → SpellsAll front requests → AreTakenPlainly requests taken → read ≡ front ++ rest → ping ∷ [] ≡ asked_of taken → ⊥
none-asked read front rest [] taken begins none are is asked = let never : ping ∷ [] ≡ [] = asked ∙ ap asked_of are in cc
none-asked read front rest (words ∷ requests) taken begins (first, others, split, s, all) are is asked = begins first (others ++ rest) words (is ∙ ap (λ f. f ++ rest) split ∙ append_assoc first others rest) s

one-asked : (first : Taken) → ping ∷ ping ∷ [] ≡ asked_of (first ∷ []) → ⊥
one-asked (Asks command) asked = cc
one-asked (Informs told) asked = cc
one-asked (Says reply) asked = cc

overtakes : (first second : Taken) (begun : List Reply) (places : List Place) (byte : ℕ) (more : List ℕ) → IsTakenPlainly (line (codes "GET k")) second → ping ∷ [] ≡ asked_of (first ∷ second ∷ [])
    → answers_to (first ∷ second ∷ []) [] ≡ map Answer begun ++ places → texts begun ≡ byte ∷ more → ⊥
unfolding example_functions
overtakes (Asks command) (Asks other) begun places byte more so asked answers sent = let never = so in cc
overtakes (Asks command) (Says reply) begun places byte more so asked answers sent = waits (Answer reply ∷ []) begun places byte more answers sent
overtakes first (Informs told) begun places byte more so asked answers sent = absurd so
overtakes (Informs told) second begun places byte more so asked answers sent = cc
overtakes (Says reply) (Asks command) begun places byte more so asked answers sent = let never = so in cc
overtakes (Says reply) (Says other) begun places byte more so asked answers sent = cc

error-overtakes : (first : Taken) (reply : Reply) (begun : List Reply) (places : List Place) (byte : ℕ) (more : List ℕ) → ping ∷ [] ≡ asked_of (first ∷ [])
    → answers_to (first ∷ Says reply ∷ []) [] ≡ map Answer begun ++ places → texts begun ≡ byte ∷ more → ⊥
error-overtakes (Asks command) reply begun places byte more asked answers sent = waits (Answer reply ∷ []) begun places byte more answers sent
error-overtakes (Informs told) reply begun places byte more asked answers sent = cc
error-overtakes (Says other) reply begun places byte more asked answers sent = cc

in-order : (first second : Taken) (begun : List Reply) (places : List Place) (byte : ℕ) (more : List ℕ) → ping ∷ len ∷ [] ≡ asked_of (first ∷ second ∷ [])
    → answers_to (first ∷ second ∷ []) (Simple Pong ∷ Int 2 ∷ []) ≡ map Answer begun ++ places → texts begun ≡ byte ∷ more → 43 ≡ byte
unfolding text
in-order (Asks command) (Asks other) begun places byte more asked answers sent =
    let first = sent-first (Answer (Simple Pong)) (Answer (Int 2) ∷ []) begun places byte more answers sent in
    let reply : Simple Pong ≡ first.0 = cc in
    let whole : text (Simple Pong) ++ first.1 ≡ byte ∷ more = ap (λ r. text r ++ first.1) reply ∙ first.3 in cc
in-order (Informs told) second begun places byte more asked answers sent = cc
in-order (Asks command) (Informs told) begun places byte more asked answers sent = cc
in-order (Says reply) (Informs told) begun places byte more asked answers sent = cc
in-order (Asks command) (Says reply) begun places byte more asked answers sent = cc
in-order (Says reply) (Asks command) begun places byte more asked answers sent = cc
in-order (Says reply) (Says other) begun places byte more asked answers sent = cc

left-out : (first second : Taken) (begun : List Reply) (places : List Place) (byte : ℕ) (more : List ℕ) → IsTakenPlainly (line (codes "PING")) first → len ∷ [] ≡ asked_of (first ∷ second ∷ [])
    → answers_to (first ∷ second ∷ []) (Int 2 ∷ []) ≡ map Answer begun ++ places → texts begun ≡ byte ∷ more → 45 ≡ byte
unfolding example_functions
left-out (Asks command) second begun places byte more so asked answers sent = let said = so in let is : ping ≡ command = cc in cc
left-out (Informs told) second begun places byte more so asked answers sent = absurd so
left-out (Says reply) second begun places byte more so asked answers sent =
    let wrong = says-error (line (codes "PING")) reply so in
    error-first wrong.0 (answers_to (second ∷ []) (Int 2 ∷ [])) begun places byte more (ap (λ r. Answer r ∷ answers_to (second ∷ []) (Int 2 ∷ [])) (sym wrong.1) ∙ answers) sent

invented : (words : List (List ℕ)) (first : Taken) (begun : List Reply) (places : List Place) (byte : ℕ) (more : List ℕ) → IsTakenPlainly words first → [] ≡ asked_of (first ∷ [])
    → answers_to (first ∷ []) [] ≡ map Answer begun ++ places → texts begun ≡ byte ∷ more → 45 ≡ byte
invented words (Asks command) begun places byte more so asked answers sent = cc
invented words (Informs told) begun places byte more so asked answers sent = absurd so
invented words (Says reply) begun places byte more so asked answers sent =
    let wrong = says-error words reply so in
    error-first wrong.0 [] begun places byte more (ap (λ (r : Reply). Answer r ∷ []) (sym wrong.1) ∙ answers) sent

-- a QUIT that was asked is among what was taken
no-quit : (taken : List Taken) (more : List Command) → has_quit taken ≡ false → Quit ∷ more ≡ asked_of taken → ⊥
no-quit [] more none asked = cc
no-quit (Says reply ∷ taken) more none asked = no-quit taken more none asked
no-quit (Informs told ∷ taken) more none asked = cc
no-quit (Asks command ∷ taken) more none asked =
    let is : Quit ≡ command = cc in
    let never : (true || list_any quits taken) ≡ false = subst (λ b. (b || list_any quits taken) ≡ false) (ap (λ c. quits (Asks c)) (sym is)) none in cc

quit-last : (before : List Taken) (asked : List Command) → asked ≡ asked_of before → has_quit before ≡ false → Quit ∷ ping ∷ [] ≡ asked ++ Quit ∷ [] → ⊥
quit-last before [] is none e = cc
quit-last before (command ∷ asked) is none e = let first : Quit ≡ command = cc in no-quit before asked none (ap (λ c. c ∷ asked) first ∙ is)

behind-quit : (standing : Standing) (ended : Option Ending) (taken : List Taken) (rest : List ℕ) (held : _) → Goes Plain standing ended taken rest held → Quit ∷ ping ∷ [] ≡ asked_of taken → ⊥
behind-quit standing None taken rest held goes asked = no-quit taken (ping ∷ []) goes.1 asked
behind-quit standing (Some ending.Quit) taken rest held (holds, (before, is, none)) asked = quit-last before (asked_of before) refl none (asked ∙ ap asked_of is ∙ asked-more before (Asks Quit) Quit Awaits (refl, refl))
behind-quit standing (Some ending.Protocol) taken rest held goes asked = no-quit taken (ping ∷ []) goes.0 asked
behind-quit standing (Some ending.Closed) taken rest held goes asked = goes
behind-quit standing (Some ending.Cut) taken rest held goes asked = goes

fault-stands : BeginsNone (codes "x")
unfolding resp.example_functions
fault-stands = fault-begins (codes "x") Shape (request-fault (codes "x") Shape refl)

part-begins : BeginsNone (wire (codes "*1^$4^PIN"))
unfolding resp.example_functions
part-begins = (request-open (wire (codes "*1^$4^PIN")) refl).0

no-fault : (rest : List ℕ) (wrong : ProtocolFault) → rest ≡ [] → FaultIn rest wrong → ⊥
unfolding resp.example_functions
no-fault rest wrong none fault = let never : Ok None ≡ Err wrong = fault-request [] wrong (subst (λ r. FaultIn r wrong) none fault) in cc

ping-spelled : SpellsAll bytes_of_ping (line (codes "PING") ∷ [])
ping-spelled = (_, _, refl, spelled-ping, refl)

ping-len-spelled : SpellsAll (bytes_of_ping ++ bytes_of_len) (line (codes "PING") ∷ line (codes "XLEN k") ∷ [])
ping-len-spelled = (_, _, refl, spelled-ping, (_, _, refl, spelled-len, refl))

ping-get-spelled : SpellsAll (bytes_of_ping ++ bytes_of_get) (line (codes "PING") ∷ line (codes "GET k") ∷ [])
ping-get-spelled = (_, _, refl, spelled-ping, (_, _, refl, spelled-get, refl))

pub returns : goal.returns
returns c = record {
  error_before_an_open_reply = λ places owed after.
      let both = both-of after.taken (codes "PING") (codes "GET") [] (codes "k" ∷ []) (taken-are anyone _ after.front after.rest after.requests (line (codes "PING") ∷ line (codes "GET k") ∷ []) after.taken after.spelled (all-plainly after.first anyone after.requests after.taken after.is_first after.are_taken) ping-get-spelled after.read_is after.goes) in
      overtakes both.0 both.1 after.begun places _ _ both.4 (after.asked_is ∙ ap asked_of both.2) (sym (ap (λ t. answers_to (t ++ []) []) both.2) ∙ after.answers) after.sent_is;
  protocol_error_before_an_open_reply = λ places owed after.
      let once = read-once after.front after.rest bytes_of_ping (codes "x") after.requests (line (codes "PING") ∷ []) after.spelled (fault-begins after.rest after.goes.1.0 after.goes.1.1) ping-spelled fault-stands (sym after.read_is) in
      let one = one-of after.taken (codes "PING") [] (subst (λ r. AreTakenPlainly r after.taken) once.0 (all-plainly after.first anyone after.requests after.taken after.is_first after.are_taken)) in
      error-overtakes one.0 (Error Protocol) after.begun places _ _ (after.asked_is ∙ ap asked_of one.1) (sym (ap (λ t. answers_to (t ++ Says (Error Protocol) ∷ []) []) one.1) ∙ after.answers) after.sent_is;
  replies_in_another_order = λ places owed after.
      let both = both-of after.taken (codes "PING") (codes "XLEN") [] (codes "k" ∷ []) (taken-are anyone _ after.front after.rest after.requests (line (codes "PING") ∷ line (codes "XLEN k") ∷ []) after.taken after.spelled (all-plainly after.first anyone after.requests after.taken after.is_first after.are_taken) ping-len-spelled after.read_is after.goes) in
      let never : 43 ≡ 58 = in-order both.0 both.1 after.begun places _ _ (after.asked_is ∙ ap asked_of both.2) (sym (ap (λ t. answers_to (t ++ []) (Simple Pong ∷ Int 2 ∷ [])) both.2) ∙ after.answers) after.sent_is in omega (arith, never);
  an_answer_left_out = λ places owed after.
      let both = both-of after.taken (codes "PING") (codes "XLEN") [] (codes "k" ∷ []) (taken-are anyone _ after.front after.rest after.requests (line (codes "PING") ∷ line (codes "XLEN k") ∷ []) after.taken after.spelled (all-plainly after.first anyone after.requests after.taken after.is_first after.are_taken) ping-len-spelled after.read_is after.goes) in
      let never : 45 ≡ 58 = left-out both.0 both.1 after.begun places _ _ both.3 (after.asked_is ∙ ap asked_of both.2) (sym (ap (λ t. answers_to (t ++ []) (Int 2 ∷ [])) both.2) ∙ after.answers) after.sent_is in omega (arith, never);
  an_answer_invented = λ places owed after.
      let one = one-of after.taken (codes "PING") [] (taken-are anyone _ after.front after.rest after.requests (line (codes "PING") ∷ []) after.taken after.spelled (all-plainly after.first anyone after.requests after.taken after.is_first after.are_taken) ping-spelled after.read_is after.goes) in
      let never : 45 ≡ 43 = invented (line (codes "PING")) one.0 after.begun places _ _ one.2 (after.asked_is ∙ ap asked_of one.1) (sym (ap (λ t. answers_to (t ++ []) []) one.1) ∙ after.answers) after.sent_is in omega (arith, never);
  an_answer_to_no_words = λ places owed after.
      let none = taken-are anyone (wire (codes "*0^")) after.front after.rest after.requests ([] ∷ []) after.taken after.spelled (all-plainly after.first anyone after.requests after.taken after.is_first after.are_taken) (_, _, refl, spelled-none, refl) after.read_is after.goes in
      nothing-sent after.begun places _ _ (sym (ap (λ t. answers_to (t ++ []) []) none) ∙ after.answers) after.sent_is;
  a_reply_to_nothing = λ places after. omega (arith, after.fits);
  asked_twice = λ got sent places owed after.
      let one = one-of after.taken (codes "PING") [] (taken-are anyone _ after.front after.rest after.requests (line (codes "PING") ∷ []) after.taken after.spelled (all-plainly after.first anyone after.requests after.taken after.is_first after.are_taken) ping-spelled after.read_is after.goes) in
      one-asked one.0 (after.asked_is ∙ ap asked_of one.1);
  asked_behind_a_quit = λ ended held got sent places owed after. behind-quit anyone ended after.taken after.rest held after.goes after.asked_is;
  part_of_a_request_asked = λ held got sent places owed after. none-asked _ after.front after.rest after.requests after.taken part-begins after.spelled (all-plainly after.first anyone after.requests after.taken after.is_first after.are_taken) after.read_is after.asked_is;
  a_quit_that_ends_nothing = λ got sent places owed after. no-quit after.taken [] after.goes.1 after.asked_is;
  a_protocol_error_of_no_fault = λ got sent places owed after.
      let once = read-once after.front after.rest bytes_of_ping [] after.requests (line (codes "PING") ∷ []) after.spelled (fault-begins after.rest after.goes.1.0 after.goes.1.1) ping-spelled nothing-begins (sym after.read_is) in
      no-fault after.rest after.goes.1.0 once.1 after.goes.1.1;
}
