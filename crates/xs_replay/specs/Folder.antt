-- A folder of snapshots and logs by their numbers, and what a start finds there. Logs count up from 1. A snapshot has
-- what the logs below its number left.
use Rattle.std.specs.Prelude.{◌≡◌, ℕ, zero, suc, ◌<◌, ◌≤◌, nat_eq, List, [], ◌++◌, Option, Some, None, if◌then◌else◌}
use Rattle.std.specs.Option.{option_and_then}
use Rattle.xs_keys.specs.Event.{Event}
use Rattle.xs_replay.specs.After.{ServerState, new_server, state_after}

pub record Folder : Type 0 where
  pub snapshots : ℕ → Option ServerState
  pub logs : ℕ → Option (List Event)

-- what this many logs from a number on leave; None if one of them is missing
abbrev pub after_logs : (ℕ → Option (List Event)) → ServerState → ℕ → ℕ → Option ServerState
after_logs logs state number zero = Some state
after_logs logs state number (suc count) =
    option_and_then (λ events. after_logs logs (state_after state events) (suc number) count) (logs number)

-- what a snapshot and the logs from its number on leave; without a snapshot, what is found from a lower one
abbrev pub from_snapshot :
    (ℕ → Option (List Event)) → ℕ → ℕ → Option ServerState → Option ServerState → Option ServerState
from_snapshot logs number count lower None = lower
from_snapshot logs number count lower (Some state) = after_logs logs state number count

-- what the greatest snapshot up to n and all logs from its number on leave, of which `above` are above n; without a
-- snapshot, what all logs leave
abbrev pub found : Folder → ℕ → ℕ → Option ServerState
found folder zero above = after_logs folder.logs new_server 1 above
found folder (suc n) above =
    from_snapshot folder.logs (suc n) (suc above) (found folder n (suc above)) (folder.snapshots (suc n))

-- what a start finds if the last log has this number
abbrev pub recovered : Folder → ℕ → Option ServerState
recovered folder last = found folder last 0

-- what the logs up to a number left, if each log got these events
abbrev pub left_by : (ℕ → List Event) → ℕ → ServerState
left_by served zero = new_server
left_by served (suc n) = state_after (left_by served n) (served (suc n))

-- the events of the logs up to a number
abbrev pub events_up_to : (ℕ → List Event) → ℕ → List Event
events_up_to served zero = []
events_up_to served (suc n) = events_up_to served n ++ served (suc n)

-- a snapshot has what the logs up to a number left; without a snapshot there are no such logs
abbrev pub StandsFor : (ℕ → List Event) → ℕ → Option ServerState → Type 0
StandsFor served n None = n ≡ 0
StandsFor served n (Some state) = state ≡ left_by served n

-- the greatest snapshot has what the logs below it left, and the logs from there up to the last one have their events;
-- nothing is required of what is below it
pub record HasServed (folder : Folder) (served : ℕ → List Event) (last : ℕ) : Type 0 where
  pub below : ℕ
  pub within : below < last
  pub greatest : StandsFor served below (folder.snapshots (suc below))
  pub none_above : (n : ℕ) → suc below < n → folder.snapshots n ≡ None
  pub logs_are : (n : ℕ) → below < n → n ≤ last → folder.logs n ≡ Some (served n)

-- the function, with another value at n
abbrev pub put : {X : Type 0} → ℕ → X → (ℕ → X) → ℕ → X
put n x things k = if nat_eq k n then x else things k
