use Rattle.std.proofs.Common.{◌≡◌, ◌++◌, ◌-◌}
use Rattle.xs_connection.specs.Unknown.{arguments}
use Rattle.xs_connection.proofs.unknown.push_arguments.Given as goal

-- what is appended, and the words to come
abbrev pub invariant-loop-used : goal.invariant-loop-used
invariant-loop-used l = l.text.items ++ arguments l.used l.left ≡ l.fn.text.items ++ arguments 0 l.fn.words

abbrev pub decreases-loop-used : goal.decreases-loop-used
decreases-loop-used l = 128 - l.used
