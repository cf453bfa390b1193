use Rattle.std.proofs.Common.{◌≡◌, ◌++◌, length}
use Rattle.xs_tape.specs.Escape.{escaped}
use Rattle.xs_tape.proofs.escape.unescaped_behind.Given as goal

abbrev pub invariant-loop-rest : goal.invariant-loop-rest
invariant-loop-rest l = l.text ≡ escaped l.word.items ++ l.rest

abbrev pub decreases-loop-rest : goal.decreases-loop-rest
decreases-loop-rest l = length l.rest
