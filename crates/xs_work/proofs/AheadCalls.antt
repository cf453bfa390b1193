-- What is submitted through a lane, and taken from it, step by step.
use Rattle.std.proofs.Common.{◌≡◌, List, [], ◌∷◌, ◌++◌, map, sym, ap, ◌∙◌, refl}
use Rattle.std.proofs.Common.{append_assoc}
use Rattle.std.proofs.lemmas.List.{append-nil}
use Rattle.xs_resp.specs.declared.reply.Reply.{Reply}
use Rattle.xs_command.specs.declared.command.Command.{Command}
use Rattle.xs_desk.specs.declared.answer.Answer.{Answer}
use Rattle.xs_desk.specs.Callers.{Caller}
use Rattle.xs_work.specs.Ahead.{Calls}

with_both : Caller → List Command → List Answer → Caller
with_both c put answers = record c { submitted = put; taken = answers }

replies-more : (answers : List Answer) (one : Answer) → map (λ (a : Answer). a.reply) (answers ++ one ∷ []) ≡ map (λ (a : Answer). a.reply) answers ++ one.reply ∷ []
replies-more [] one = refl
replies-more (other ∷ answers) one = ap (λ r. other.reply ∷ r) (replies-more answers one)

pub calls-none : (first : Caller) → Calls first first [] []
unfolding with_both
calls-none first = record {
  answers = [];
  got_is = refl;
  client_is = sym (ap (λ s. with_both first s (first.taken ++ [])) (append-nil first.submitted) ∙ ap (with_both first first.submitted) (append-nil first.taken));
}

pub calls-put : (first now later : Caller) (put : List Command) (got : List Reply) (command : Command) → Calls first now put got → later ≡ record now { submitted = now.submitted ++ command ∷ [] }
    → Calls first later (put ++ command ∷ []) got
unfolding with_both
calls-put first now later put got command k is = record {
  answers = k.answers;
  got_is = k.got_is;
  client_is = is ∙ ap (λ (x : Caller). with_both x (x.submitted ++ command ∷ []) x.taken) k.client_is ∙ ap (λ s. with_both first s (first.taken ++ k.answers)) (append_assoc first.submitted put (command ∷ []));
}

pub calls-taken : (first now later : Caller) (put : List Command) (got : List Reply) (answer : Answer) → Calls first now put got → later ≡ record now { taken = now.taken ++ answer ∷ [] }
    → Calls first later put (got ++ answer.reply ∷ [])
unfolding with_both
calls-taken first now later put got answer k is = record {
  answers = k.answers ++ answer ∷ [];
  got_is = ap (λ g. g ++ answer.reply ∷ []) k.got_is ∙ sym (replies-more k.answers answer);
  client_is =
      is ∙ ap (λ (x : Caller). with_both x x.submitted (x.taken ++ answer ∷ [])) k.client_is
      ∙ ap (with_both first (first.submitted ++ put)) (append_assoc first.taken k.answers (answer ∷ []));
}
