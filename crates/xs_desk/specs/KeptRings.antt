-- What every call keeps: the rings, and the number of the lane.
use Rattle.std.specs.Prelude.{◌≡◌, ℕ, List, map, slice_get, Some}
use Rattle.xs_desk.specs.ServedCalls.{Ring, LaneOf, Desk}
use Rattle.xs_desk.specs.Callers.{Caller}

abbrev pub rings_of : LaneOf → Ring × Ring
rings_of lane = (lane.calls, lane.answers)

abbrev pub KeepsRings : Desk → Desk → Type 0
KeepsRings old new = map rings_of new.lanes ≡ map rings_of old.lanes

abbrev pub KeepsSide : Caller → Caller → Type 0
KeepsSide old new = (new.lane ≡ old.lane) × (new.calls ≡ old.calls) × (new.answers ≡ old.answers)

-- each of the ends keeps what its client had
abbrev pub KeepSides : List Caller → List Caller → Type 0
KeepSides clients ends =
    (i : ℕ) (end : Caller) → slice_get ends i ≡ Some end
    → (client : Caller) × (slice_get clients i ≡ Some client) × KeepsSide client end
