use Rattle.std.proofs.Common.{map, take}
use Rattle.xs_resp.specs.Grammar.{AreSizes}
use Rattle.xs_tape.specs.Escape.{escaped}
use Rattle.xs_tape.proofs.record.are_short.Given as goal

abbrev pub invariant-loop-word : goal.invariant-loop-word
invariant-loop-word l = AreSizes (map escaped (take l.word-index l.words))
