-- A lane from the keeper's side.
use Rattle.std.specs.Prelude.{◌≡◌, ℕ, true, ◌+◌, ◌^◌, ◌⊎◌, List, [], ◌∷◌, ◌++◌, length, map, is_some}
use mathlib.Core.List.{IsPrefix}
use Rattle.rtrb.specs.Ring.{sent, received, known_items}
use Rattle.xs_command.specs.declared.command.Command.{Command}
use Rattle.xs_command.specs.WellFormed.{IsWellFormed}
use Rattle.xs_keys.specs.Event.{Event}
use Rattle.xs_keys.specs.Content.{Content}
use Rattle.xs_keys.specs.Step.{Step}
use Rattle.xs_keys.specs.Waiting.{block_of, IsAnsweredNull}
use Rattle.xs_desk.specs.declared.answer.Answer.{Answer}
use Rattle.xs_desk.specs.declared.lane_end.Look.{Look}
use Rattle.xs_desk.specs.declared.lane_end.Look.TheVariants.{Idle, Blocked, Served, Exhausted}
use Rattle.xs_desk.specs.declared.lane_end.LaneEnd.{LaneEnd}
use Rattle.xs_desk.specs.ServedCalls.{LaneOf, Desk}
use Rattle.xs_desk.specs.Calls.{asked_by}
use Rattle.xs_desk.specs.Noting.{Notes, KeepsAtOnce}
use Rattle.xs_desk.specs.Outbox.{given, IsFull}
use Rattle.xs_desk.specs.Rings.{producer_ring, consumer_ring}

abbrev pub lane_of : LaneEnd → LaneOf
lane_of lane_end =
    record {
      popped = asked_by (received lane_end.calls);
      sent = given lane_end.answers;
      calls = consumer_ring lane_end.calls;
      answers = producer_ring lane_end.answers.ring;
    }

abbrev pub desk_of : List LaneEnd → Content → ℕ → Content → Desk
desk_of lane_ends keyspace place start =
    record { lanes = map lane_of lane_ends; keyspace = keyspace; place = place; start = start }

-- the answers of a lane that were handed out
abbrev pub handed_out : LaneEnd → List Answer
handed_out lane_end = sent lane_end.answers.ring

-- the state before or after a look at a lane
pub record Scene (C J : Type 0) : Type 0 where
  pub lane : LaneOf
  pub handed : List Answer
  pub keyspace : Content
  pub place : ℕ
  pub clock : C
  pub journal : J

abbrev pub scene : {C J : Type 0} → LaneEnd → Content → ℕ → C → J → Scene C J
scene lane_end keyspace place clock journal =
    record {
      lane = lane_of lane_end;
      handed = handed_out lane_end;
      keyspace = keyspace;
      place = place;
      clock = clock;
      journal = journal;
    }

-- one call of the lane was taken, which is well formed, applied at the moment that the clock gave, noted, and answered
pub record Answers
    {C J : Type 0} (gives : C → ℕ → C → Type 0) (has : J → List Event → ℕ → Type 0) (old new : Scene C J) : Type 0 where
  pub command : Command
  pub answer : Answer
  pub lane_is :
      new.lane ≡ record old.lane { popped = old.lane.popped ++ command ∷ []; sent = old.lane.sent ++ answer ∷ [] }
  pub ticket_is : answer.ticket ≡ length old.lane.sent
  pub place_is : answer.place ≡ old.place
  pub next_is : new.place ≡ old.place + 1
  pub formed : IsWellFormed command
  pub applied : Step old.keyspace answer.moment command answer.reply new.keyspace
  pub moment : gives old.clock answer.moment new.clock
  pub noted : Notes has old.journal (answer.moment, command) old.keyspace new.keyspace new.journal
  pub handed_is : (new.handed ≡ old.handed) ⊎ KeepsAtOnce has

-- the result of a look: nothing has changed, or one call was answered; or no further place is left
abbrev pub Looks : {C J : Type 0} → (C → ℕ → C → Type 0) → (J → List Event → ℕ → Type 0) → Look → Scene C J → Scene C J
    → Type 0
Looks gives has Idle old new = new ≡ old
Looks gives has (Blocked _) old new = new ≡ old
Looks gives has (Served _) old new = Answers gives has old new
Looks gives has Exhausted old new = (new ≡ old) × (old.place + 1 ≡ 2 ^ 64)

-- the next of these calls is a read with BLOCK, which would now be answered with the null array
abbrev pub MayWait : Content → List Command → Type 0
MayWait content calls =
    (command : Command) × IsPrefix (command ∷ []) calls × (is_some (block_of command) ≡ true)
    × IsAnsweredNull content command

-- a look that finds nothing saw no call, or no room for its answer; one that lets a call wait saw that it may
abbrev pub FindsNothing : Look → Content → LaneEnd → Type 0
FindsNothing Idle keyspace lane_end = (length (known_items lane_end.calls) ≡ 0) ⊎ IsFull lane_end.answers
FindsNothing (Blocked _) keyspace lane_end = MayWait keyspace (asked_by (known_items lane_end.calls))
FindsNothing _ keyspace lane_end = Unit {0}

-- a call was served, or no place is left
abbrev pub IsService : Look → Type 0
IsService (Served _) = Unit {0}
IsService Exhausted = Unit {0}
IsService _ = ⊥
