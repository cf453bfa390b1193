-- How a lane takes answers and submits a call, step by step.
use Rattle.std.specs.Prelude.{◌≡◌, List, [], ◌∷◌, ◌++◌, refl}
use Rattle.std.proofs.Common.{sym, ◌∙◌, ap, append_assoc}
use Rattle.std.proofs.lemmas.List.{append-nil}
use Rattle.xs_command.specs.declared.command.Command.{Command}
use Rattle.xs_desk.specs.declared.answer.Answer.{Answer}
use Rattle.xs_desk.specs.Callers.{Caller}
use Rattle.xs_desk.specs.Asking.{Takes, Submits, Receives}

abbrev with_taken : Caller → List Answer → Caller
with_taken c xs = record c { taken = xs }

pub takes_none : (c : Caller) → Takes c c
takes_none c = ([], sym (ap (with_taken c) (append-nil c.taken)))

pub takes_same : (c m c' : Caller) → Takes c m → c' ≡ m → Takes c c'
takes_same c m c' t e = (t.0, e ∙ t.1)

pub takes_more : (c m : Caller) (a : Answer) (c' : Caller) → Takes c m → c' ≡ record m { taken = m.taken ++ a ∷ [] } → Takes c c'
takes_more c m a c' t e =
    (t.0 ++ a ∷ [], e ∙ ap (λ (x : Caller). with_taken x (x.taken ++ a ∷ [])) t.1 ∙ ap (with_taken c) (append_assoc c.taken t.0 (a ∷ [])))

pub takes_last : (c m : Caller) (a : Answer) (c' : Caller) → Takes c m → c' ≡ record m { taken = m.taken ++ a ∷ [] } → Receives c a.ticket a.reply c'
takes_last c m a c' t e = (t.0, a, e ∙ ap (λ (x : Caller). with_taken x (x.taken ++ a ∷ [])) t.1, refl, refl)

pub takes_submits : (c m : Caller) (command : Command) (c' : Caller) → Takes c m → c' ≡ record m { submitted = m.submitted ++ command ∷ [] } → Submits c command c'
takes_submits c m command c' t e = (t.0, e ∙ ap (λ (x : Caller). let y : Caller = record x { submitted = x.submitted ++ command ∷ [] } in y) t.1)

-- the steps of a lane that asks
pub ruleset steps = (takes_none, takes_more, takes_last, takes_submits, takes_same)
