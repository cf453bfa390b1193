-- A lane from its client's side.
use Rattle.std.specs.Prelude.{◌≡◌, ℕ, List, slice_get, Some}
use Rattle.std.specs.declared.alloc.Global.{Global}
use Rattle.rtrb.specs.Ring.{sent, received, producer_capacity, consumer_capacity}
use Rattle.rtrb.specs.declared.AnyItems.{AnyItems}
use Rattle.rtrb.specs.declared.producer.Producer.{Producer}
use Rattle.rtrb.specs.declared.consumer.Consumer.{Consumer}
use Rattle.xs_command.specs.declared.command.Command.{Command}
use Rattle.xs_desk.specs.declared.answer.Answer.{Answer}
use Rattle.xs_desk.specs.declared.answer.Call.{Call}
use Rattle.xs_desk.specs.declared.answer.Formed.{Formed}
use Rattle.xs_desk.specs.Calls.{asked_by}
use Rattle.xs_desk.specs.ServedCalls.{Ring, LaneOf}
use Rattle.xs_desk.specs.Rings.{producer_ring, consumer_ring}

-- a client: the number of its lane, the commands submitted, the answers taken, the rings of both, and the number of
-- places of each ring
pub record Caller : Type 0 where
  pub lane : ℕ
  pub submitted : List Command
  pub taken : List Answer
  pub calls : Ring
  pub answers : Ring
  pub depth : ℕ
  pub answer_depth : ℕ

abbrev pub caller_of : ℕ → Producer Call Global Formed → Consumer Answer Global AnyItems → Caller
caller_of lane calls answers =
    record {
      lane = lane;
      submitted = asked_by (sent calls);
      taken = received answers;
      calls = producer_ring calls;
      answers = consumer_ring answers;
      depth = producer_capacity calls;
      answer_depth = consumer_capacity answers;
    }

-- the two sides of one lane
abbrev pub IsSide : LaneOf → Caller → Type 0
IsSide lane caller = (lane.calls ≡ caller.calls) × (lane.answers ≡ caller.answers)

-- it is a side of the lane of its number
abbrev pub IsEndOf : List LaneOf → Caller → Type 0
IsEndOf lanes end = (lane : LaneOf) × (slice_get lanes end.lane ≡ Some lane) × IsSide lane end

-- each of these is
abbrev pub AreEndsOfLanes : List LaneOf → List Caller → Type 0
AreEndsOfLanes lanes ends = (i : ℕ) (end : Caller) → slice_get ends i ≡ Some end → IsEndOf lanes end

-- an end of lane k is there
abbrev pub HasEndOfLane : List Caller → ℕ → Type 0
HasEndOfLane ends k = (i : ℕ) × (end : Caller) × (slice_get ends i ≡ Some end) × (end.lane ≡ k)
