-- The parts of which replies are written.
use Rattle.std.specs.Prelude.{ℕ, List}
use Rattle.xs_resp.specs.declared.fault.Fault.{Fault}
use Rattle.xs_resp.specs.declared.reply.Simple as simple

-- a complete reply that isn't an array, or the header of an array with this many items, which follow it
pub data Token : Type 0 where
  Simple : simple.Simple → Token
  Error : Fault → Token
  ErrorText : List ℕ → Token
  Int : ℕ → Token
  Bulk : List ℕ → Token
  NullBulk : Token
  Array : ℕ → Token
  NullArray : Token
