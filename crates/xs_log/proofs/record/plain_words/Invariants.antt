use Rattle.std.proofs.Common.{◌≡◌, ◌++◌, map, length}
use Rattle.xs_tape.specs.Escape.{escaped}
use Rattle.xs_log.proofs.record.plain_words.Given as goal

abbrev pub invariant-loop-text : goal.invariant-loop-text
invariant-loop-text l = l.fn.sent ≡ map escaped l.words.items ++ l.left

abbrev pub decreases-loop-text : goal.decreases-loop-text
decreases-loop-text l = length l.left
