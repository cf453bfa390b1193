use Rattle.std.proofs.Common.{◌≡◌, fold, take}
use Rattle.xs_tape.specs.Checksum.{with_byte}
use Rattle.xs_tape.proofs.checksum.with_bytes.Given as goal

abbrev pub invariant-loop-byte : goal.invariant-loop-byte
invariant-loop-byte l = l.so_far ≡ fold with_byte l.remainder (take l.byte-index l.bytes)
