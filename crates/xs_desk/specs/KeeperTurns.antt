-- How one call, and one turn, change a desk.
use Rattle.std.specs.Prelude.{◌≡◌, ℕ, ◌+◌, ◌≤◌, List, [], ◌∷◌, ◌++◌, length, slice_get, slice_set, Some}
use Rattle.xs_command.specs.WellFormed.{IsWellFormed}
use Rattle.xs_keys.specs.Step.{Step}
use Rattle.xs_desk.specs.ServedCalls.{ServedCall, LaneOf, Desk, AreCallsOf}

-- a lane with one call more
abbrev pub with_call : LaneOf → ServedCall → LaneOf
with_call lane call =
    record lane { popped = lane.popped ++ call.command ∷ []; sent = lane.sent ++ call.answer ∷ [] }

-- Its command is well formed, is taken from its lane and applied to the keyspace at the moment in the answer, and the
-- answer is sent to the same lane: with the reply, with the number of the answers sent there before as its ticket, and
-- with the next place of the desk
pub record ServesCall (old : Desk) (call : ServedCall) (new : Desk) : Type 0 where
  pub lane : LaneOf
  pub here : slice_get old.lanes call.lane ≡ Some lane
  pub lanes_are : new.lanes ≡ slice_set old.lanes call.lane (with_call lane call)
  pub ticket_is : call.answer.ticket ≡ length lane.sent
  pub place_is : call.answer.place ≡ old.place
  pub next_is : new.place ≡ old.place + 1
  pub start_is : new.start ≡ old.start
  pub formed : IsWellFormed call.command
  pub applied : Step old.keyspace call.answer.moment call.command call.answer.reply new.keyspace

-- one call after the other
abbrev pub ServesAll : Desk → List ServedCall → Desk → Type 0
ServesAll old [] new = new ≡ old
ServesAll old (call ∷ calls) new = (mid : Desk) × ServesCall old call mid × ServesAll mid calls new

-- the clock gave the moments of these calls, and no others
abbrev pub TellsMoments : {C : Type 0} → (C → ℕ → C → Type 0) → C → List ServedCall → C → Type 0
TellsMoments gives old [] new = new ≡ old
TellsMoments gives old (call ∷ calls) new =
    (mid : _) × gives old call.answer.moment mid × TellsMoments gives mid calls new

-- their lanes ascend, from `low` on and below `high`
abbrev pub LanesAscend : ℕ → List ServedCall → ℕ → Type 0
LanesAscend low [] high = low ≤ high
LanesAscend low (call ∷ calls) high = (low ≤ call.lane) × LanesAscend (call.lane + 1) calls high

-- this many calls were served, at most one of each lane below `high`, in the order of the lanes, and the clock was read
-- once for each
pub record Turns
    {C : Type 0} (gives : C → ℕ → C → Type 0) (old : Desk) (clock : C) (count high : ℕ) (new : Desk) (later : C)
    : Type 0 where
  pub calls : List ServedCall
  pub served : ServesAll old calls new
  pub in_order : LanesAscend 0 calls high
  pub moments : TellsMoments gives clock calls later
  pub counted : count ≡ length calls

-- A turn that extends the calls of the desk: its calls come after those before it, and the start stays the same.
pub record ExtendsCalls
    {C : Type 0} (gives : C → ℕ → C → Type 0) (old : Desk) (clock : C) (count high : ℕ) (new : Desk) (later : C)
    : Type 0 where
  pub turns : Turns gives old clock count high new later
  pub before : List ServedCall
  pub old_is : AreCallsOf before old
  pub new_is : AreCallsOf (before ++ turns.calls) new
  pub start_is : new.start ≡ old.start

-- no lane has more answers than places were given
abbrev pub HasPlaces : Desk → Type 0
HasPlaces desk = (k : ℕ) (lane : LaneOf) → slice_get desk.lanes k ≡ Some lane → length lane.sent ≤ desk.place
