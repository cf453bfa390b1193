use Rattle.std.proofs.Common.{◌≡◌, length}
use Rattle.xs_session.specs.Strangers.{are_short}
use Rattle.xs_session.proofs.strangers.are_short.Given as goal

-- the words before these are short
abbrev pub invariant-loop-word : goal.invariant-loop-word
invariant-loop-word l = are_short l.fn.words ≡ are_short l.left

abbrev pub decreases-loop-word : goal.decreases-loop-word
decreases-loop-word l = length l.left
