use Rattle.std.proofs.Common.{◌≡◌, ◌++◌, take}
use Rattle.xs_connection.specs.Unknown.{escaped}
use Rattle.xs_connection.proofs.unknown.push_escaped.Given as goal

-- the bytes so far
abbrev pub invariant-loop-byte : goal.invariant-loop-byte
invariant-loop-byte l = l.text.items ≡ l.fn.text.items ++ escaped (take l.byte-index l.bytes)
