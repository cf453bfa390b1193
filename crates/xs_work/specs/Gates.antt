-- The connections of a gate: those that it gave, and those that came back.
use Rattle.std.specs.Prelude.{◌≡◌, Bool, true, false, List, [], ◌∷◌, ◌++◌, map}
use Rattle.xs_io.specs.Passing.{Passing}
use Rattle.xs_io.specs.DeviceState.{ReaderState, WriterState, input_of, output_of}
use Rattle.xs_io.specs.declared.device.Source as source
use Rattle.xs_io.specs.declared.device.Sink as sink
use Rattle.xs_session.specs.declared.manner.Manner.{Manner}

-- a connection, as contracts see it
pub record Seen : Type 0 where
  pub input : ReaderState
  pub output : WriterState

abbrev pub seen : {R W : Type 0} → source.Ghosts R → sink.Ghosts W → R × W → Seen
seen reader writer one = record { input = input_of reader one.0; output = output_of writer one.1 }

-- no byte has passed through a reader or a writer yet
abbrev pub AreFresh : Passing → Passing → Type 0
AreFresh rest held = (rest.passed ≡ []) × (held.passed ≡ [])

-- each of these readers and writers, as contracts see it
abbrev pub all_seen : {R W : Type 0} → source.Ghosts R → sink.Ghosts W → List (R × W) → List Seen
all_seen reader writer ones = map (seen reader writer) ones

-- a gate: which commands of its connections the sessions answer themselves; the connections that it gave, each in the
-- state of that time; those that came back, each in the state of that time; and whether it gives no further one
pub record GateTrace : Type 0 where
  pub manner : Manner
  pub given : List Seen
  pub returned : List Seen
  pub is_over : Bool

-- a gate that has given nothing yet
abbrev pub new_gate : Manner → GateTrace
new_gate manner = record { manner = manner; given = []; returned = []; is_over = false }

-- with this manner
abbrev pub with_manner : Manner → GateTrace → GateTrace
with_manner manner gate = record gate { manner = manner }

-- this connection is given too
abbrev pub with_given : GateTrace → Seen → GateTrace
with_given gate one = record gate { given = gate.given ++ one ∷ [] }

-- this connection came back too
abbrev pub with_returned : GateTrace → Seen → GateTrace
with_returned gate one = record gate { returned = gate.returned ++ one ∷ [] }

-- it gives no further one
abbrev pub at_end : GateTrace → GateTrace
at_end gate = record gate { is_over = true }
