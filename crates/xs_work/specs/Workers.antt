-- A worker: it serves the connections of a gate, one after the other, through a lane.
use Rattle.std.specs.Prelude.{◌≡◌, ◌≢◌, ℕ, ◌⊎◌, Bool, true, false, List, [], ◌∷◌, ◌++◌, codes, slice_get}
use Rattle.std.specs.Prelude.{Some, Result, Err}
use Rattle.xs_io.specs.Passing.{Appends, Consumes}
use Rattle.xs_resp.specs.Line.{crlf}
use Rattle.xs_desk.specs.Callers.{Caller}
use Rattle.xs_session.specs.declared.manner.Manner.{Manner}
use Rattle.xs_session.specs.declared.ending.Ending.{Ending}
use Rattle.xs_work.specs.declared.ahead.AheadFault.{AheadFault}
use Rattle.xs_work.specs.declared.ahead.AheadFault.TheVariants as fault
use Rattle.xs_work.specs.Ahead.{ServesAhead, HasCauseOf}
use Rattle.xs_work.specs.Gates.{Seen, GateTrace, AreFresh}

-- the error for a client for which there is no memory
abbrev pub no_memory : List ℕ
no_memory = codes "-OOM out of memory" ++ crlf

-- out of memory was reported to the client of a connection that ended so, unless the writer failed; nothing was
-- reported to any other
abbrev pub IsReported : Result Ending AheadFault → List ℕ → Bool → Type 0
IsReported (Err fault.Memory) reported unwritten =
    (rest : List ℕ) × (no_memory ≡ reported ++ rest) × ((rest ≡ []) ⊎ (unwritten ≡ true))
IsReported _ reported unwritten = reported ≡ []

-- a connection, from what was given to what came back: these bytes were read from it, and what they ask was submitted
-- through the lane; the answers were sent; and it ended so, for a cause that its reader and its writer confirm
pub record ServesOne
    (manner : Manner) (result : Result Ending AheadFault) (first last : Caller) (given back : Seen) : Type 0 where
  pub read : List ℕ
  pub sent : List ℕ
  pub reported : List ℕ
  pub consumes : Consumes given.input.rest back.input.rest read
  pub appends : Appends given.output.held back.output.held (sent ++ reported)
  pub served : ServesAhead result first last manner read sent
  pub cause : HasCauseOf result back.input back.output
  pub is_reported : IsReported result reported back.output.broken

-- the connections that were given are those that came back, one by one and in order; nothing had passed through any
-- before; each was served through the lane, and nothing else was submitted or taken; and unless the lane was lost, all
-- were answered
abbrev pub ServesEach : Manner → Bool → Caller → List Seen → List Seen → Caller → Type 0
ServesEach manner lost first [] [] last = last ≡ first
ServesEach manner lost first (one ∷ given) (back ∷ returned) last =
    (result : Result Ending AheadFault) × (mid : Caller) × (lost ≡ false → result ≢ Err fault.Port)
    × AreFresh one.input.rest one.output.held × ServesOne manner result first mid one back
    × ServesEach manner lost mid given returned last
ServesEach manner lost first _ _ last = ⊥

-- so were the connections that the gate gave meanwhile
pub record ServesGate (lost : Bool) (first last : Caller) (before now : GateTrace) : Type 0 where
  pub given : List Seen
  pub returned : List Seen
  pub given_is : now.given ≡ before.given ++ given
  pub returned_is : now.returned ≡ before.returned ++ returned
  pub manner_is : now.manner ≡ before.manner
  pub served : ServesEach before.manner lost first given returned last

-- What a worker did. Without a fault it served its gate to the end.
pub record Works (faulty : Bool) (first last : Caller) (before now : GateTrace) : Type 0 where
  pub served : ServesGate faulty first last before now
  pub over : faulty ≡ false → now.is_over ≡ true

-- so did each worker, from its client to its end, over its gate
abbrev pub WorkEach : Bool → List Caller → List Caller → List GateTrace → List GateTrace → Type 0
WorkEach faulty clients ends before now =
    (i : ℕ) (end : Caller) → slice_get ends i ≡ Some end
    → (client : Caller) × (first last : GateTrace) × (slice_get clients i ≡ Some client)
    × (slice_get before i ≡ Some first) × (slice_get now i ≡ Some last) × Works faulty client end first last
