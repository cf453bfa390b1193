-- The steps of a lane for one command.
use Rattle.std.specs.Prelude.{◌≡◌, ℕ, ◌⊎◌, Bool, List, [], ◌∷◌, ◌++◌, length}
use Rattle.xs_resp.specs.declared.reply.Reply.{Reply}
use Rattle.xs_command.specs.declared.command.Command.{Command}
use Rattle.xs_desk.specs.declared.answer.Answer.{Answer}
use Rattle.xs_desk.specs.Callers.{Caller}

-- a lane: its client, and whether it has reported that the keeper is gone
pub record Asker : Type 0 where
  pub client : Caller
  pub gone : Bool

-- some answers were taken
abbrev pub Takes : Caller → Caller → Type 0
Takes old new = (older : List Answer) × (new ≡ record old { taken = old.taken ++ older })

-- some answers were taken, and the command was submitted
abbrev pub Submits : Caller → Command → Caller → Type 0
Submits old command new =
    (older : List Answer) × (new ≡ record old { submitted = old.submitted ++ command ∷ []; taken = old.taken ++ older })

-- some answers were taken, the last of which has the ticket and the reply
abbrev pub Receives : Caller → ℕ → Reply → Caller → Type 0
Receives old ticket reply new =
    (older : List Answer) × (last : Answer) × (new ≡ record old { taken = old.taken ++ older ++ last ∷ [] })
    × (last.ticket ≡ ticket) × (last.reply ≡ reply)

-- the command was submitted once, and the last answer taken is the one to it
abbrev pub Asks : Caller → Command → Reply → Caller → Type 0
Asks old command reply new = (mid : Caller) × Submits old command mid × Receives mid (length old.submitted) reply new

-- the command was submitted once, or not at all
abbrev pub AskFails : Caller → Command → Caller → Type 0
AskFails old command new = Takes old new ⊎ Submits old command new
