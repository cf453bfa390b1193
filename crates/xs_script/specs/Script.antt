-- The output of a script: the replies to its lines, in order.
use Rattle.std.specs.Prelude.{◌≡◌, ℕ, false, List, [], ◌∷◌, ◌++◌, Option, Some, None, IsSomeAnd}
use Rattle.std.specs.List.{flat_map, list_any}
use Rattle.xs_resp.specs.declared.reply.Reply.{Reply}
use Rattle.xs_resp.specs.ReplyText.{text}
use Rattle.xs_command.specs.declared.command.Command.{Command}
use Rattle.xs_keys.specs.Event.{Event, History}
use Rattle.xs_keys.specs.EachReply.{JoinsOrIsLeftOut}
use Rattle.xs_keys.specs.Headline.{Headline}
use Rattle.xs_script.specs.Answering.{Asks, IsAnswer}
use Rattle.xs_script.specs.Line.{is_line_end, line_of}

-- over a history, these script lines may be answered by this text, and leave that history
abbrev pub Script : History → List (List ℕ) → List ℕ → History → Type 0
Script past [] out last = (out ≡ []) × (last ≡ past)
Script past (line ∷ lines) out last =
    (answer : Reply) × (next : History) × (more : List ℕ)
    × IsSomeAnd (line_of line) (λ request. IsAnswer (λ before. JoinsOrIsLeftOut before request.0) past request.1 answer next)
    × (out ≡ text answer ++ more) × Script next lines more last

-- a line that was answered: its moment, the command that its words asked, if they did, and the reply
pub record Served : Type 0 where
  pub now : ℕ
  pub asked : Option Command
  pub answer : Reply

-- the line has that moment, and its words are that command; or nothing was asked, because they have a fault or memory
-- ran out
abbrev pub IsServedLine : List ℕ → Served → Type 0
IsServedLine line served =
    (words : List (List ℕ)) × (line_of line ≡ Some (served.now, words)) × Asks words served.asked served.answer

abbrev pub AreServed : List (List ℕ) → List Served → Type 0
AreServed [] [] = Unit {0}
AreServed (line ∷ lines) (one ∷ more) = IsServedLine line one × AreServed lines more
AreServed _ _ = ⊥

-- the commands that were asked, at their moments, in the order of the lines, and the replies to them
abbrev pub onto_event : ℕ → Option Command → List Event → List Event
onto_event now None events = events
onto_event now (Some command) events = (now, command) ∷ events

abbrev pub events_of_lines : List Served → List Event
events_of_lines [] = []
events_of_lines (one ∷ more) = onto_event one.now one.asked (events_of_lines more)

abbrev pub onto_answer : Option Command → Reply → List Reply → List Reply
onto_answer None answer answers = answers
onto_answer (Some command) answer answers = answer ∷ answers

abbrev pub answers_of_lines : List Served → List Reply
answers_of_lines [] = []
answers_of_lines (one ∷ more) = onto_answer one.asked one.answer (answers_of_lines more)

-- a complete script: each line is answered, the headline holds for the commands that were asked, and the text is that
-- of all the replies
pub record IsScript (lines : List (List ℕ)) (out : List ℕ) : Type 0 where
  pub served : List Served
  pub are_served : AreServed lines served
  pub history : History
  pub headline : Headline [] (events_of_lines served) (answers_of_lines served) history
  pub out_is : out ≡ flat_map (λ one. text one.answer) served

-- a line with its end
abbrev pub with_end : List ℕ → List ℕ
with_end line = line ++ 10 ∷ []

-- no line contains a line end
abbrev pub AreLines : List (List ℕ) → Type 0
AreLines [] = Unit {0}
AreLines (line ∷ lines) = (list_any is_line_end line ≡ false) × AreLines lines
