-- What contracts see of a reader and a writer at one time.
use Rattle.std.specs.Prelude.{◌≡◌, ℕ, Bool, true}
use Rattle.xs_io.specs.Passing.{Passing, IsAtEnd}
use Rattle.xs_io.specs.declared.device.Source as source
use Rattle.xs_io.specs.declared.device.Sink as sink

-- of a reader: the bytes that it has given, and those that are left; the number of its calls; whether its end was
-- reached; and whether it has failed
pub record ReaderState : Type 0 where
  pub rest : Passing
  pub calls : ℕ
  pub ended : Bool
  pub broken : Bool

-- of a writer: the bytes that it has taken, and those that it holds; and whether it has failed
pub record WriterState : Type 0 where
  pub held : Passing
  pub broken : Bool

abbrev pub input_of : {R : Type 0} → source.Ghosts R → R → ReaderState
input_of device reader = record {
  rest = device.rest reader;
  calls = device.calls reader;
  ended = device.ended reader;
  broken = device.broken reader;
}

abbrev pub output_of : {W : Type 0} → sink.Ghosts W → W → WriterState
output_of device writer = record { held = device.held writer; broken = device.broken writer }

-- no byte is left, and the end was reached
abbrev pub HasReachedEnd : ReaderState → Type 0
HasReachedEnd input = IsAtEnd input.rest × (input.ended ≡ true)
