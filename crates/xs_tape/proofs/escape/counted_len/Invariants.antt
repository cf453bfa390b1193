use Rattle.std.proofs.Common.{◌≡◌, ◌*◌, ◌≤◌, length, take}
use Rattle.xs_tape.specs.Escape.{escaped}
use Rattle.xs_tape.proofs.escape.counted_len.Given as goal

abbrev pub invariant-loop-byte : goal.invariant-loop-byte
invariant-loop-byte l = (l.size ≡ length (escaped (take l.byte-index l.word))) × (l.size ≤ 2 * l.byte-index)
