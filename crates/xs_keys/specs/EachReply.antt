-- Each reply: the model's, or that memory ran out.
use Rattle.std.specs.Prelude.{◌≡◌, ℕ, true, false, ◌⊎◌, List, [], ◌∷◌}
use Rattle.xs_keys.specs.Terms.{Memory, Reply, Error, Command}
use Rattle.xs_command.specs.WellFormed.{IsWellFormed}
use Rattle.xs_keys.specs.Content.{Content, IsContent}
use Rattle.xs_keys.specs.Reply.{reply}
use Rattle.xs_keys.specs.Step.{takes_memory, is_error, IsUnchangedIfRefused}
use Rattle.xs_keys.specs.RepliesTell.{IsReported}
use Rattle.xs_keys.specs.Event.{Event, History, event_moment, event_command}

-- an event of the history: its command is well formed, and its reply is the model's, at the content after the events
-- before it; what the reply reports is what was done; and what is refused changes nothing
pub record IsReplied (past : History) (now : ℕ) (command : Command) (answer : Reply) : Type 0 where
  pub formed : IsWellFormed command
  pub content : Content
  pub left_by : IsContent content past
  pub answer_is : answer ≡ reply content now command
  pub reported : IsReported past now command answer
  pub unchanged : IsUnchangedIfRefused content now command

-- the command was answered OOM: it takes memory, and the model refuses nothing
pub record IsLeftOut (past : History) (now : ℕ) (command : Command) (answer : Reply) : Type 0 where
  pub takes : takes_memory command ≡ true
  pub content : Content
  pub left_by : IsContent content past
  pub no_other : is_error (reply content now command) ≡ false
  pub answer_is : answer ≡ Error Memory

-- over a past, at a moment, a command gets this reply, and this history follows: the event joins it, or is left out
abbrev pub JoinsOrIsLeftOut : History → ℕ → Command → Reply → History → Type 0
JoinsOrIsLeftOut past now command answer next =
    (IsReplied past now command answer × (next ≡ (now, command) ∷ past))
    ⊎ (IsLeftOut past now command answer × (next ≡ past))

-- after a past, each of these events, in order, was replied to by the answer at its place, and the last history has
-- those events that joined it
abbrev pub AreReplied : History → List Event → List Reply → History → Type 0
AreReplied past [] [] last = last ≡ past
AreReplied past (e ∷ run) (answer ∷ answers) last =
    (next : History) × JoinsOrIsLeftOut past (event_moment e) (event_command e) answer next × AreReplied next run answers last
AreReplied past _ _ last = ⊥
