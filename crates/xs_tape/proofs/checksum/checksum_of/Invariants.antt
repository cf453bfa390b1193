use Rattle.std.proofs.Common.{◌≡◌, ◌∷◌, fold, take}
use Rattle.std.specs.List.{concat}
use Rattle.xs_tape.specs.Checksum.{with_byte}
use Rattle.xs_tape.proofs.checksum.checksum_of.Given as goal

abbrev pub invariant-loop-word : goal.invariant-loop-word
invariant-loop-word l = l.so_far ≡ fold with_byte 4294967295 (concat (l.first ∷ take l.word-index l.rest))
