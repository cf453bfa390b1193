-- The summaries of the lanes of a desk that is closed, and why one isn't closed.
use Rattle.std.specs.Prelude.{◌≡◌, ℕ, ◌+◌, ◌<◌, List, length, slice_get, Some}
use mathlib.Core.List.{IsPrefix}
use Rattle.xs_desk.specs.declared.closing.CloseError.{CloseError}
use Rattle.xs_desk.specs.declared.closing.CloseError.TheVariants.{Unfinished, Memory}
use Rattle.xs_desk.specs.declared.summary.LaneSummary.{LaneSummary}
use Rattle.xs_desk.specs.ServedCalls.{LaneOf, Desk}
use Rattle.xs_desk.specs.Callers.{Caller, HasEndOfLane}

-- The calls that were taken from the lane are the first of those submitted, each of them was answered, and the answers
-- taken are the first of those sent. The summary counts these lists and what is left of them.
pub record SumsUp (lane : LaneOf) (end : Caller) (summary : LaneSummary) : Type 0 where
  pub calls : IsPrefix lane.popped end.submitted
  pub answers : IsPrefix end.taken lane.sent
  pub even : length lane.sent ≡ length lane.popped
  pub served : summary.served ≡ length lane.popped
  pub left : summary.served + summary.left ≡ length end.submitted
  pub untaken : length end.taken + summary.untaken ≡ length lane.sent

-- the summaries of the lanes up to lane k, each by an end of that lane
pub record SumUp (lanes : List LaneOf) (ends : List Caller) (k : ℕ) (summaries : List LaneSummary) : Type 0 where
  pub count : length summaries ≡ k
  pub each :
      (j : ℕ) (lane : LaneOf) (summary : LaneSummary) → slice_get lanes j ≡ Some lane
      → slice_get summaries j ≡ Some summary
      → (i : ℕ) × (end : Caller) × (slice_get ends i ≡ Some end) × (end.lane ≡ j) × SumsUp lane end summary

-- as many answers as calls
abbrev pub AreEven : List LaneOf → Type 0
AreEven lanes = (k : ℕ) (lane : LaneOf) → slice_get lanes k ≡ Some lane → length lane.sent ≡ length lane.popped

-- both arguments come back, and an end is missing, or none is
abbrev pub IsRefused : Desk → List Caller → CloseError → Type 0
IsRefused desk ends (Unfinished keeper ended) =
    (keeper ≡ desk) × (ended.items ≡ ends) × ((k : ℕ) × (k < length desk.lanes) × (HasEndOfLane ends k → ⊥))
IsRefused desk ends (Memory keeper ended) =
    (keeper ≡ desk) × (ended.items ≡ ends) × ((k : ℕ) → k < length desk.lanes → HasEndOfLane ends k)
