-- Requests that are taken, one more at a time, and the replies to them.
use Rattle.std.proofs.Common.{◌≡◌, ℕ, ◌<◌, ◌≤◌, true, false, List, [], ◌∷◌, ◌++◌, length}
use Rattle.std.proofs.Common.{ap, refl, sym, ◌∙◌, arith, subst, ◌⊎◌, inl, inr, append_assoc}
use Rattle.std.proofs.lemmas.List.{append-nil}
use Rattle.xs_resp.specs.declared.reply.Reply.{Reply}
use Rattle.xs_command.specs.declared.command.Command.{Command}
use Rattle.xs_command.specs.declared.command.Command.TheVariants.{Inspect}
use Rattle.xs_command.specs.declared.command.Inspection.TheVariants.{KeyCount}
use Rattle.xs_connection.specs.declared.standing.Standing.{Standing}
use Rattle.xs_connection.specs.Transaction.{released, released_of}
use Rattle.xs_connection.specs.declared.transaction.Transaction.{Transaction}
use Rattle.xs_connection.specs.declared.transaction.Transaction.TheVariants.{Released}
use Rattle.xs_session.specs.declared.manner.Manner.{Manner}
use Rattle.xs_session.specs.declared.manner.Manner.TheVariants.{Plain, Full}
use Rattle.xs_session.specs.declared.places.Place.{Place}
use Rattle.xs_session.specs.declared.places.Place.TheVariants.{Answer, Awaits, AwaitsKeys}
use Rattle.xs_session.specs.Information.{informed}
use Rattle.xs_session.specs.Answers.{Taken, Asks, Informs, Says, may_ask, IsKept, IsRefused, IsTaken, IsRun, AreRun, AreTaken, asked_of, answers_to}
use Rattle.xs_session.specs.Places.{has_open, fill_first}

-- a command that waits is answered, if the connection may use the keyspace
pub kept-refused : (manner : Manner) (old new : Standing) (words : List (List ℕ)) (reply : Reply) → may_ask manner old words ≡ true → IsKept old words reply new → IsRefused manner (may_ask manner old words) old words reply new
kept-refused manner old new words reply may kept = subst (λ b. IsRefused manner b old words reply new) (sym may) (by manner) where
  by : (manner : Manner) → IsRefused manner true old words reply new
  by Plain = inr kept
  by (Full wanted) = inr kept

-- one more that EXEC has released
run-more : (old mid : Transaction) (run : List Taken) (words : List (List ℕ)) (others : List (List (List ℕ))) (one : Taken) → AreRun old run mid → mid ≡ Released (words ∷ others) → IsRun words one
    → AreRun old (run ++ one ∷ []) (released others)
run-more old mid [] words others one same is runs = (words, others, sym same ∙ is, runs, refl)
run-more old mid (first ∷ run) words others one (name, more, split, so, ran) is runs = (name, more, split, so, run-more (released more) mid run words others one ran is runs)

-- if nothing is left at the end, nothing is left before the next request
left-clear : (manner : Manner) (mid standing : Standing) (left : Transaction) (requests : List (List (List ℕ))) (more : List Taken) → released_of standing.transaction ≡ []
    → (requests ≡ []) ⊎ (released_of left ≡ []) → AreTaken manner (record mid { transaction = left }) requests more standing → released_of left ≡ []
left-clear manner mid standing left [] more nothing clear (none, same) = ap (λ (s : Standing). released_of s.transaction) (sym same) ∙ nothing
left-clear manner mid standing left (request ∷ requests) more nothing (inl never) are = cc
left-clear manner mid standing left (request ∷ requests) more nothing (inr clear) are = clear

-- one more request that has words, if nothing is left that EXEC has released
pub taken-more : (manner : Manner) (first standing next : Standing) (requests : List (List (List ℕ))) (taken : List Taken) (words : List (List ℕ)) (one : Taken) → released_of standing.transaction ≡ []
    → AreTaken manner first requests taken standing → 0 < length words → IsTaken manner standing words one next → AreTaken manner first (requests ++ words ∷ []) (taken ++ one ∷ []) next
taken-more manner first standing next [] taken [] one nothing none some is = absurd (omega arith)
taken-more manner first standing next [] taken (word ∷ words) one nothing (none, same) some is =
    (one, [], [], next, next.transaction, ap (λ t. t ++ one ∷ []) none, subst (λ s. IsTaken manner s (word ∷ words) one next) same is, refl, inl refl, (refl, refl))
taken-more manner first standing next ([] ∷ requests) taken words one nothing are some is = taken-more manner first standing next requests taken words one nothing are some is
taken-more manner first standing next ((word ∷ others) ∷ requests) taken words one nothing (here, run, more, mid, left, split, taken_so, ran, clear, are) some is = (
  here,
  run,
  more ++ one ∷ [],
  mid,
  left,
  ap (λ t. t ++ one ∷ []) split ∙ ap (λ t. here ∷ t) (append_assoc run more (one ∷ [])),
  taken_so,
  ran,
  inr (left-clear manner mid standing left requests more nothing clear are),
  taken-more manner (record mid { transaction = left }) standing next requests more words one nothing are some is,
)

-- one more request without words
pub taken-same : (manner : Manner) (first standing : Standing) (requests : List (List (List ℕ))) (taken : List Taken) → released_of standing.transaction ≡ [] → AreTaken manner first requests taken standing
    → AreTaken manner first (requests ++ [] ∷ []) taken standing
taken-same manner first standing [] taken nothing none = none
taken-same manner first standing ([] ∷ requests) taken nothing are = taken-same manner first standing requests taken nothing are
taken-same manner first standing ((word ∷ others) ∷ requests) taken nothing (here, run, more, mid, left, split, is, ran, clear, are) =
    (here, run, more, mid, left, split, is, ran, inr (left-clear manner mid standing left requests more nothing clear are), taken-same manner (record mid { transaction = left }) standing requests more nothing are)

-- one more that EXEC has released, after the last request
pub taken-runs : (manner : Manner) (first standing : Standing) (requests : List (List (List ℕ))) (taken : List Taken) (words : List (List ℕ)) (others : List (List (List ℕ))) (one : Taken) → released_of first.transaction ≡ []
    → AreTaken manner first requests taken standing → standing.transaction ≡ Released (words ∷ others) → IsRun words one → AreTaken manner first requests (taken ++ one ∷ []) (record standing { transaction = released others })
taken-runs manner first standing [] taken words others one nothing (none, same) is runs =
    let never : words ∷ others ≡ [] = sym (ap released_of is) ∙ ap (λ (s : Standing). released_of s.transaction) same ∙ nothing in cc
taken-runs manner first standing ([] ∷ requests) taken words others one nothing are is runs = taken-runs manner first standing requests taken words others one nothing are is runs
taken-runs manner first standing ((word ∷ names) ∷ []) taken words others one nothing (here, run, more, mid, left, split, so, ran, clear, (none, same)) is runs = (
  here,
  run ++ one ∷ [],
  [],
  mid,
  released others,
  ap (λ t. t ++ one ∷ []) (split ∙ ap (λ m. here ∷ (run ++ m)) none ∙ ap (λ r. here ∷ r) (append-nil run)) ∙ ap (λ r. here ∷ r) (sym (append-nil (run ++ one ∷ []))),
  so,
  run-more mid.transaction left run words others one ran (ap (λ (s : Standing). s.transaction) (sym same) ∙ is) runs,
  inl refl,
  (refl, ap (λ (s : Standing). record s { transaction = released others }) same),
)
taken-runs manner first standing ((word ∷ names) ∷ request ∷ requests) taken words others one nothing (here, run, more, mid, left, split, so, ran, inl never, are) is runs = cc
taken-runs manner first standing ((word ∷ names) ∷ request ∷ requests) taken words others one nothing (here, run, more, mid, left, split, so, ran, inr clear, are) is runs = (
  here,
  run,
  more ++ one ∷ [],
  mid,
  left,
  ap (λ t. t ++ one ∷ []) split ∙ ap (λ t. here ∷ t) (append_assoc run more (one ∷ [])),
  so,
  ran,
  inr clear,
  taken-runs manner (record mid { transaction = left }) standing (request ∷ requests) more words others one clear are is runs,
)

-- this asks a command, whose answer is waited for at this place
abbrev pub IsAsking : Taken → Command → Place → Type 0
IsAsking (Asks other) command place = (command ≡ other) × (place ≡ Awaits)
IsAsking (Informs told) command place = (command ≡ Inspect KeyCount) × (place ≡ AwaitsKeys told)
IsAsking (Says reply) command place = ⊥

asks-one : (one : Taken) (command : Command) (place : Place) → IsAsking one command place → asked_of (one ∷ []) ≡ command ∷ []
asks-one (Asks other) command place (is, waits) = ap (λ c. c ∷ []) (sym is)
asks-one (Informs told) command place (is, waits) = ap (λ c. c ∷ []) (sym is)
asks-one (Says reply) command place never = absurd never

waits-one : (one : Taken) (command : Command) (place : Place) → IsAsking one command place → answers_to (one ∷ []) [] ≡ place ∷ []
waits-one (Asks other) command place (is, waits) = ap (λ p. p ∷ []) (sym waits)
waits-one (Informs told) command place (is, waits) = ap (λ p. p ∷ []) (sym waits)
waits-one (Says reply) command place never = absurd never

pub asked-more : (taken : List Taken) (one : Taken) (command : Command) (place : Place) → IsAsking one command place → asked_of (taken ++ one ∷ []) ≡ asked_of taken ++ command ∷ []
asked-more [] one command place asking = asks-one one command place asking
asked-more (Asks other ∷ taken) one command place asking = ap (λ c. other ∷ c) (asked-more taken one command place asking)
asked-more (Informs told ∷ taken) one command place asking = ap (λ c. Inspect KeyCount ∷ c) (asked-more taken one command place asking)
asked-more (Says reply ∷ taken) one command place asking = asked-more taken one command place asking

pub asked-same : (taken : List Taken) (reply : Reply) → asked_of (taken ++ Says reply ∷ []) ≡ asked_of taken
asked-same [] reply = refl
asked-same (Asks other ∷ taken) reply = ap (λ c. other ∷ c) (asked-same taken reply)
asked-same (Informs told ∷ taken) reply = ap (λ c. Inspect KeyCount ∷ c) (asked-same taken reply)
asked-same (Says other ∷ taken) reply = asked-same taken reply

-- a reply is waited for
pub answers-ask : (taken : List Taken) (got : List Reply) (one : Taken) (command : Command) (place : Place) → IsAsking one command place → length got ≤ length (asked_of taken)
    → answers_to (taken ++ one ∷ []) got ≡ answers_to taken got ++ place ∷ []
answers-ask [] [] one command place asking fits = waits-one one command place asking
answers-ask [] (reply ∷ got) one command place asking fits = absurd (omega (arith, fits))
answers-ask (Says reply ∷ taken) got one command place asking fits = ap (λ a. Answer reply ∷ a) (answers-ask taken got one command place asking fits)
answers-ask (Asks other ∷ taken) [] one command place asking fits = ap (λ a. Awaits ∷ a) (answers-ask taken [] one command place asking (omega arith))
answers-ask (Asks other ∷ taken) (reply ∷ got) one command place asking fits = ap (λ a. Answer reply ∷ a) (answers-ask taken got one command place asking (omega (arith, fits)))
answers-ask (Informs told ∷ taken) [] one command place asking fits = ap (λ a. AwaitsKeys told ∷ a) (answers-ask taken [] one command place asking (omega arith))
answers-ask (Informs told ∷ taken) (reply ∷ got) one command place asking fits = ap (λ a. Answer (informed told reply) ∷ a) (answers-ask taken got one command place asking (omega (arith, fits)))

-- an answer is there at once
pub answers-say : (taken : List Taken) (got : List Reply) (said : Reply) → answers_to (taken ++ Says said ∷ []) got ≡ answers_to taken got ++ Answer said ∷ []
answers-say [] got said = refl
answers-say (Says other ∷ taken) got said = ap (λ a. Answer other ∷ a) (answers-say taken got said)
answers-say (Asks other ∷ taken) [] said = ap (λ a. Awaits ∷ a) (answers-say taken [] said)
answers-say (Asks other ∷ taken) (reply ∷ got) said = ap (λ a. Answer reply ∷ a) (answers-say taken got said)
answers-say (Informs told ∷ taken) [] said = ap (λ a. AwaitsKeys told ∷ a) (answers-say taken [] said)
answers-say (Informs told ∷ taken) (reply ∷ got) said = ap (λ a. Answer (informed told reply) ∷ a) (answers-say taken got said)

-- a reply has come
pub answers-got : (taken : List Taken) (got : List Reply) (reply : Reply) → has_open (answers_to taken got) ≡ true
    → answers_to taken (got ++ reply ∷ []) ≡ fill_first reply (answers_to taken got)
answers-got [] got reply waits = let e : false ≡ true = waits in cc
answers-got (Says said ∷ taken) got reply waits = ap (λ a. Answer said ∷ a) (answers-got taken got reply waits)
answers-got (Asks command ∷ taken) [] reply waits = refl
answers-got (Asks command ∷ taken) (other ∷ got) reply waits = ap (λ a. Answer other ∷ a) (answers-got taken got reply waits)
answers-got (Informs told ∷ taken) [] reply waits = refl
answers-got (Informs told ∷ taken) (other ∷ got) reply waits = ap (λ a. Answer (informed told other) ∷ a) (answers-got taken got reply waits)

-- what is waited for was asked
pub open-fits : (taken : List Taken) (got : List Reply) → has_open (answers_to taken got) ≡ true → length got < length (asked_of taken)
open-fits [] got waits = let e : false ≡ true = waits in cc
open-fits (Says reply ∷ taken) got waits = open-fits taken got waits
open-fits (Asks command ∷ taken) [] waits = omega arith
open-fits (Asks command ∷ taken) (other ∷ got) waits = omega (arith, open-fits taken got waits)
open-fits (Informs told ∷ taken) [] waits = omega arith
open-fits (Informs told ∷ taken) (other ∷ got) waits = omega (arith, open-fits taken got waits)

-- if none is waited for, as many replies have come as commands were asked
pub closed-fits : (taken : List Taken) (got : List Reply) → has_open (answers_to taken got) ≡ false → length (asked_of taken) ≤ length got
closed-fits [] got closed = omega arith
closed-fits (Says reply ∷ taken) got closed = closed-fits taken got closed
closed-fits (Asks command ∷ taken) [] closed = let e : true ≡ false = closed in cc
closed-fits (Asks command ∷ taken) (other ∷ got) closed = omega (arith, closed-fits taken got closed)
closed-fits (Informs told ∷ taken) [] closed = let e : true ≡ false = closed in cc
closed-fits (Informs told ∷ taken) (other ∷ got) closed = omega (arith, closed-fits taken got closed)
