-- What a journal has of the calls of a desk, and which of its answers were handed out.
use Rattle.std.specs.Prelude.{◌≡◌, ◌≤◌, ◌⊎◌, ℕ, List, ◌++◌, length, map, take, slice_get, Some}
use mathlib.Core.List.{IsPrefix}
use Rattle.xs_keys.specs.Event.{Event}
use Rattle.xs_keys.specs.Content.{Content}
use Rattle.xs_replay.specs.Calls.{Call, Serves, log_of}
use Rattle.xs_replay.specs.Calls as replay
use Rattle.xs_desk.specs.declared.lane_end.LaneEnd.{LaneEnd}
use Rattle.xs_desk.specs.ServedCalls.{Desk, ServedCall, of_lane, events_of, replies_of, answers_of}
use Rattle.xs_desk.specs.KeeperTurns.{Turns}
use Rattle.xs_desk.specs.LaneEnds.{handed_out}
use Rattle.xs_desk.specs.Noting.{KeepsAtOnce}

-- calls that were served, each with whether the log has it
pub record AreMarked (marked : List Call) (calls : List ServedCall) : Type 0 where
  pub events : replay.events_of marked ≡ events_of calls
  pub answers : replay.answers_of marked ≡ replies_of calls

module _ {J : Type 0} (has : J → List Event → ℕ → Type 0) where
  -- calls were noted, or left out because they changed nothing
  pub record NotesAll (before : J) (calls : List ServedCall) (old new : Content) (later : J) : Type 0 where
    pub marked : List Call
    pub marks : AreMarked marked calls
    pub served : Serves old marked new
    pub noted : (events : List Event) (kept : ℕ) → has before events kept → has later (events ++ log_of marked) kept

  -- a turn, whose calls were noted; nothing more was handed out, or whatever is noted is kept at once
  pub record NotesTurn
      {C : Type 0} (gives : C → ℕ → C → Type 0) (old : Desk) (clock : C) (before : J) (ends : List LaneEnd)
      (count high : ℕ) (new : Desk) (later : C) (after : J) (others : List LaneEnd) : Type 0 where
    pub turns : Turns gives old clock count high new later
    pub notes : NotesAll before turns.calls old.keyspace new.keyspace after
    pub handed : (map handed_out others ≡ map handed_out ends) ⊎ KeepsAtOnce has

  -- The log has each call that changed something. The answers that were handed out are of the first
  -- calls, whose events are kept.
  pub record IsDurable (calls : List ServedCall) (ends : List LaneEnd) (start content : Content) (journal : J)
      : Type 0 where
    pub marked : List Call
    pub marks : AreMarked marked calls
    pub served : Serves start marked content
    pub settled : ℕ
    pub within : settled ≤ length calls
    pub kept : ℕ
    pub journal_has : has journal (log_of marked) kept
    pub are_kept : length (log_of (take settled marked)) ≤ kept
    pub handed : (k : ℕ) (lane_end : LaneEnd) → slice_get ends k ≡ Some lane_end
        → IsPrefix (handed_out lane_end) (answers_of (of_lane k (take settled calls)))
