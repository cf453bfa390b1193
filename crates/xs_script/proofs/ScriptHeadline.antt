-- Scripts: one line more, and the headline.
use Rattle.std.proofs.Common.{◌≡◌, ℕ, ◌+◌, List, [], ◌∷◌, ◌++◌, length, Option, Some, None, Ok, sym, ap, ◌∙◌, subst}
use Rattle.std.proofs.Common.{refl, append_assoc, arith, IsSomeAnd, length-append}
use Rattle.std.proofs.lemmas.List.{append-nil}
use Rattle.xs_resp.specs.declared.reply.Reply.{Reply}
use Rattle.xs_resp.specs.ReplyText.{text}
use Rattle.xs_command.specs.declared.command.Command.{Command}
use Rattle.xs_command.proofs.FormedReads.{given_formed}
use Rattle.xs_keys.specs.Event.{History}
use Rattle.xs_keys.specs.Content.{Content, IsContent}
use Rattle.xs_io.specs.Device.{counter_at}
use Rattle.xs_script.specs.Line.{line_of}
use Rattle.xs_script.specs.Answering.{Answered, IsAnswer}
use Rattle.xs_keys.specs.EachReply.{JoinsOrIsLeftOut, AreReplied}
use Rattle.xs_keys.proofs.Runs.{step-follows, headline}
use Rattle.xs_script.specs.Script.{Script, Served, AreServed, events_of_lines, answers_of_lines, IsScript}
use Rattle.xs_keys.specs.Step.{StepAt}
use Rattle.std.specs.List.{flat_map}

-- how an answer of the keyspace continues a history
pub answer-follows : (past : History) (old new : Content) (now : ℕ) (words : List (List ℕ)) (asked : Option Command) (answer : Reply) → IsContent old past
    → Answered (StepAt now) old words asked answer new → (next : History) × IsContent new next × Answered (λ before. JoinsOrIsLeftOut before now) past words asked answer next
answer-follows past old new now words (Some command) answer is said =
    let next = step-follows past old new now command answer (given_formed words (Ok command) said.0) is said.1 in
    (next.0, next.1, (said.0, next.2))
answer-follows past old new now words None answer is said = (past, subst (λ c. IsContent c past) (sym said.0) is, (refl, said.1))

-- one line more
pub script-more : (past : History) (lines : List (List ℕ)) (line : List ℕ) (out : List ℕ) (mid next : History) (answer : Reply)
    → Script past lines out mid → IsSomeAnd (line_of line) (λ request. IsAnswer (λ before. JoinsOrIsLeftOut before request.0) mid request.1 answer next) → Script past (lines ++ line ∷ []) (out ++ text answer) next
script-more past [] line out mid next answer so_far answered = (
  answer,
  next,
  [],
  subst (λ p. IsSomeAnd (line_of line) (λ request. IsAnswer (λ before. JoinsOrIsLeftOut before request.0) p request.1 answer next)) so_far.1 answered,
  ap (λ o. o ++ text answer) so_far.0 ∙ sym (append-nil (text answer)),
  (refl, refl),
)
script-more past (first ∷ lines) line out mid next answer (reply, then, more, said, is, rest) answered =
    (reply, then, more ++ text answer, said, ap (λ o. o ++ text answer) is ∙ append_assoc (text reply) more (text answer), script-more then lines line more mid next answer rest answered)

line-answered : (past : History) (old new : Content) (read : Option (ℕ × List (List ℕ))) (answer : Reply) → IsContent old past
    → IsSomeAnd read (λ request. IsAnswer (StepAt request.0) old request.1 answer new)
    → (next : History) × IsContent new next × IsSomeAnd read (λ request. IsAnswer (λ before. JoinsOrIsLeftOut before request.0) past request.1 answer next)
line-answered past old new (Some request) answer is serves =
    let next = answer-follows past old new request.0 request.1 serves.0 answer is serves.1 in
    (next.0, next.1, (serves.0, next.2))
line-answered past old new None answer is serves = absurd serves

-- a served line
pub served-line : (lines : List (List ℕ)) (line out : List ℕ) (past : History) (old new : Content) (answer : Reply) → IsContent old past
    → Script [] lines out past → IsSomeAnd (line_of line) (λ request. IsAnswer (StepAt request.0) old request.1 answer new)
    → (next : History) × Script [] (lines ++ line ∷ []) (out ++ text answer) next × IsContent new next
served-line lines line out past old new answer is so_far serves =
    let next = line-answered past old new (line_of line) answer is serves in
    (next.0, script-more [] lines line out past next.0 answer so_far next.2, next.1)

-- ---- the headline of a script

-- lines that are answered over a history: the commands that were asked follow one another
pub record ServesFrom (past : History) (lines : List (List ℕ)) (out : List ℕ) (last : History) : Type 0 where
  pub served : List Served
  pub are_served : AreServed lines served
  pub answers : AreReplied past (events_of_lines served) (answers_of_lines served) last
  pub out_is : out ≡ flat_map (λ one. text one.answer) served

serves-more : (past : History) (line : List ℕ) (lines : List (List ℕ)) (out more : List ℕ) (next last : History) (answer : Reply)
    → (read : Option (ℕ × List (List ℕ))) → line_of line ≡ read → IsSomeAnd read (λ request. IsAnswer (λ before. JoinsOrIsLeftOut before request.0) past request.1 answer next)
    → out ≡ text answer ++ more → ServesFrom next lines more last → ServesFrom past (line ∷ lines) out last
serves-more past line lines out more next last answer None e said is rest = absurd said
serves-more past line lines out more next last answer (Some request) e (Some command, said) is rest = record {
  served = record { now = request.0; asked = Some command; answer = answer } ∷ rest.served;
  are_served = ((request.1, e, said.0), rest.are_served);
  answers = (next, said.1, rest.answers);
  out_is = is ∙ ap (λ o. text answer ++ o) rest.out_is;
}
serves-more past line lines out more next last answer (Some request) e (None, said) is rest = record {
  served = record { now = request.0; asked = None; answer = answer } ∷ rest.served;
  are_served = ((request.1, e, said.1), rest.are_served);
  answers = subst (λ p. AreReplied p (events_of_lines rest.served) (answers_of_lines rest.served) last) said.0 rest.answers;
  out_is = is ∙ ap (λ o. text answer ++ o) rest.out_is;
}

serves-from : (past : History) (lines : List (List ℕ)) (out : List ℕ) (last : History) → Script past lines out last → ServesFrom past lines out last
serves-from past [] out last script = record { served = []; are_served = tt; answers = script.1; out_is = script.0 }
serves-from past (line ∷ lines) out last (answer, next, more, said, is, rest) =
    serves-more past line lines out more next last answer (line_of line) refl said is (serves-from next lines more last rest)

pub is-script : (lines : List (List ℕ)) (out : List ℕ) (past : History) → Script [] lines out past → IsScript lines out
is-script lines out past script =
    let all = serves-from [] lines out past script in
    record {
      served = all.served;
      are_served = all.are_served;
      history = past;
      headline = headline [] (events_of_lines all.served) (answers_of_lines all.served) past all.answers;
      out_is = all.out_is;
    }

-- ---- counts

pub capped-more : (n : ℕ) (lines : List (List ℕ)) (line : List ℕ) → n ≡ counter_at (length lines) → counter_at (n + 1) ≡ counter_at (length (lines ++ line ∷ []))
capped-more n lines line e = let len = length-append lines (line ∷ []) in omega arith

pub capped-sent : (n m : ℕ) (sent part : List ℕ) → n ≡ counter_at (length sent) → m ≡ counter_at (n + length part) → m ≡ counter_at (length (sent ++ part))
capped-sent n m sent part e f = let len = length-append sent part in omega arith
