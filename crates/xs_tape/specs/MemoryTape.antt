-- The content of a tape in memory.
use Rattle.std.specs.Prelude.{ℕ, List, map}
use Rattle.std.specs.Global.{Vec}
use Rattle.xs_tape.specs.Tape.{TapeBytes}
use Rattle.xs_tape.specs.declared.memory_tape.MemoryTape.{MemoryTape}

-- the bytes of each vector
abbrev pub bytes_of : List (Vec ℕ) → List (List ℕ)
bytes_of vectors = map (λ v. v.items) vectors

abbrev pub tape_bytes : MemoryTape → TapeBytes
tape_bytes tape = record { closed = bytes_of tape.closed.items; written = tape.bytes.items; kept = tape.kept }
