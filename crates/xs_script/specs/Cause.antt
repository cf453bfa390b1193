-- Why a script ended.
use Rattle.std.specs.Prelude.{◌≡◌, ℕ, ◌+◌, ◌⊎◌, true}
use Rattle.xs_io.specs.Device.{counter_at}
use Rattle.xs_io.specs.DeviceState.{ReaderState, WriterState, HasReachedEnd}

pub data Cause : Type 0 where
  itself : Cause  -- it ended by itself, or found no memory for more bytes
  input : Cause  -- the end of the input was met
  reader : Cause  -- the reader failed, or was asked too often
  writer : Cause  -- the writer failed

-- the most calls of a reader
abbrev pub reads_limit : ℕ
reads_limit = 1000000000000

-- what is known of a cause from the reader before the script and after it, and from the writer after it
abbrev pub HasCause : Cause → ReaderState → ReaderState → WriterState → Type 0
HasCause itself old new output = Unit {0}
HasCause input old new output = HasReachedEnd new
HasCause reader old new output =
    (new.broken ≡ true) ⊎ (counter_at new.calls ≡ counter_at (old.calls + reads_limit))
HasCause writer old new output = output.broken ≡ true
