-- The calls of a desk: those that its keeper served, each with its answer, in the order of their places.
use Rattle.std.specs.Prelude.{◌≡◌, ℕ, ◌<◌, ◌==◌, List, map, filter, length, slice_get, Some, All}
use Rattle.std.specs.declared.alloc.Global.{Global}
use Rattle.rtrb.specs.Shared.{Names}
use denote.RawPtr.{Ptr}
use Rattle.xs_resp.specs.declared.reply.Reply.{Reply}
use Rattle.xs_keys.specs.Event.{Event}
use Rattle.xs_command.specs.declared.command.Command.{Command}
use Rattle.xs_command.specs.WellFormed.{IsWellFormed}
use Rattle.xs_keys.specs.Content.{Content}
use Rattle.xs_keys.specs.Headline.{RunsOn}
use Rattle.xs_desk.specs.declared.answer.Answer.{Answer}

-- a call that was served: the number of its lane, its command, and its answer
pub record ServedCall : Type 0 where
  pub lane : ℕ
  pub command : Command
  pub answer : Answer

-- which ring it is
pub record Ring : Type 0 where
  pub words : Ptr
  pub slots : Ptr
  pub names : Names
  pub heap : Global

-- a lane as its keeper knows it: the commands taken from it, the answers sent to it, and the rings of both
pub record LaneOf : Type 0 where
  pub popped : List Command
  pub sent : List Answer
  pub calls : Ring
  pub answers : Ring

-- a desk as its keeper knows it: the lanes, the content of the keyspace, the next place, and the content at the start
pub record Desk : Type 0 where
  pub lanes : List LaneOf
  pub keyspace : Content
  pub place : ℕ
  pub start : Content

-- the calls of lane k
abbrev pub of_lane : ℕ → List ServedCall → List ServedCall
of_lane k calls = filter (λ call. call.lane == k) calls

abbrev pub commands_of : List ServedCall → List Command
commands_of calls = map (λ call. call.command) calls

abbrev pub answers_of : List ServedCall → List Answer
answers_of calls = map (λ call. call.answer) calls

-- each command at the moment in its answer
abbrev pub events_of : List ServedCall → List Event
events_of calls = map (λ call. (call.answer.moment, call.command)) calls

abbrev pub replies_of : List ServedCall → List Reply
replies_of calls = map (λ call. call.answer.reply) calls

-- the numbers are 0, 1, 2, ..
abbrev pub CountUp : List ℕ → Type 0
CountUp numbers = (i n : ℕ) → slice_get numbers i ≡ Some n → n ≡ i

-- The places are 0, 1, 2, .. over the whole desk, and the tickets are 0, 1, 2, .. in each lane. What was taken from a
-- lane and sent to it are its calls, in their order. Each command is well formed. The calls at their
-- moments are a run from the content at the start, which gave these replies and left the present content.
pub record AreCallsOf (calls : List ServedCall) (desk : Desk) : Type 0 where
  pub places : CountUp (map (λ call. call.answer.place) calls)
  pub tickets : (k : ℕ) → CountUp (map (λ call. call.answer.ticket) (of_lane k calls))
  pub lanes : (k : ℕ) (lane : LaneOf) → slice_get desk.lanes k ≡ Some lane
      → (lane.popped ≡ commands_of (of_lane k calls)) × (lane.sent ≡ answers_of (of_lane k calls))
  pub within : All (λ call. call.lane < length desk.lanes) calls
  pub formed : All (λ call. IsWellFormed call.command) calls
  pub next : desk.place ≡ length calls
  pub runs : RunsOn desk.start (events_of calls) (replies_of calls) desk.keyspace
