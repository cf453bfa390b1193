-- The result of work over gates.
use Rattle.std.specs.Prelude.{◌≡◌, ◌⊎◌, ℕ, Bool, false, List, [], length, slice_get, Some, All}
use Rattle.xs_bytes.specs.SortedMap.{empty}
use Rattle.xs_keys.specs.Headline.{RunsOn}
use Rattle.xs_desk.specs.declared.summary.Summary.{Summary}
use Rattle.xs_desk.specs.ServedCalls.{ServedCall, Desk, AreCallsOf, events_of, replies_of}
use Rattle.xs_desk.specs.Callers.{Caller, AreEndsOfLanes}
use Rattle.xs_desk.specs.Closing.{SumUp}
use Rattle.xs_desk.specs.Opening.{IsDeskError, IsLaneCount, IsDepth}
use Rattle.xs_session.specs.declared.manner.Manner.{Manner}
use Rattle.xs_work.specs.Gates.{GateTrace, new_gate}
use Rattle.xs_work.specs.Workers.{Works}
use Rattle.xs_work.specs.declared.fault.WorkFault.{WorkFault}
use Rattle.xs_work.specs.declared.fault.WorkFault.TheVariants as fault
use Rattle.xs_work.specs.declared.worker.WorkerFault.{WorkerFault}
use Rattle.xs_work.specs.declared.worker.WorkerFault.TheVariants as worker
use Rattle.xs_work.specs.declared.logged.LoggedEnd.{LoggedEnd}
use Rattle.xs_work.specs.declared.logged.LoggedEnd.TheVariants as logged

-- a client that has submitted and taken nothing
abbrev pub IsUnused : Caller → Type 0
IsUnused client = (client.submitted ≡ []) × (client.taken ≡ [])

-- Each end is of the lane of its place. The gate of that place was served through that lane, from the lane's first call
-- to its last, and to its end unless a worker had a fault. No gate is missing: each came back.
pub record AreServed (faulty : Bool) (ends : List Caller) (before now : List GateTrace) : Type 0 where
  pub each : (i : ℕ) (end : Caller) → slice_get ends i ≡ Some end
      → (client : Caller) × (first last : GateTrace) × (end.lane ≡ i) × IsUnused client
      × (slice_get before i ≡ Some first) × (slice_get now i ≡ Some last) × Works faulty client end first last
  pub ends_count : length ends ≡ length before
  pub gates_count : length now ≡ length before

-- A desk was closed that has a lane for each gate. The ends that came back are sides of its lanes, each gate was served
-- through its lane, and to its end unless a worker had a fault, and the summary has a part for each lane, which counts
-- the calls and answers of its two sides; the calls that were served, in the order of their places, are those of the
-- desk; and they are a run from the empty keyspace on, which gave these replies and left the summary's keyspace.
pub record IsClosed (faulty : Bool) (before now : List GateTrace) (summary : Summary) : Type 0 where
  pub desk : Desk
  pub ends : List Caller
  pub calls : List ServedCall
  pub count : length desk.lanes ≡ length before
  pub are_ends : AreEndsOfLanes desk.lanes ends
  pub served : AreServed faulty ends before now
  pub lanes : SumUp desk.lanes ends (length before) summary.lanes.items
  pub are_calls : AreCallsOf calls desk
  pub runs : RunsOn empty (events_of calls) (replies_of calls) summary.keyspace

-- a desk was closed that had this many gates, none of which had given a connection before
abbrev pub HasServed : Manner → ℕ → Type 0
HasServed manner n =
    (before now : List GateTrace) × (summary : Summary) × (length before ≡ n) × All (λ gate. gate ≡ new_gate manner) before
    × IsClosed false before now summary

-- the fault of work for the fault of a worker
abbrev pub work_fault : WorkerFault → WorkFault
work_fault worker.Start = fault.Start
work_fault worker.Gate = fault.Gate
work_fault worker.Lane = fault.Lane

-- the fault of a worker that had begun
abbrev pub IsOfWorker : WorkFault → Type 0
IsOfWorker why = (why ≡ fault.Gate) ⊎ (why ≡ fault.Lane)

-- there was no desk for this many lanes with this many places; or there was one, and something else failed
abbrev pub IsWorkFault : ℕ → ℕ → ℕ → WorkFault → Type 0
IsWorkFault most n depth (fault.Desk error) = IsDeskError most n depth error
IsWorkFault most n depth fault.Start = IsLaneCount most n × IsDepth depth
IsWorkFault most n depth fault.Gate = IsLaneCount most n × IsDepth depth
IsWorkFault most n depth fault.Lane = IsLaneCount most n × IsDepth depth
IsWorkFault most n depth fault.Close = ⊥
IsWorkFault most n depth fault.Memory = IsLaneCount most n × IsDepth depth

-- the same for work with a log, which a failure of the log may end too
abbrev pub IsLoggedEnd : ℕ → ℕ → ℕ → LoggedEnd → Type 0
IsLoggedEnd most n depth (logged.Work fault) = IsWorkFault most n depth fault
IsLoggedEnd most n depth (logged.Log kept) = IsLaneCount most n × IsDepth depth
