use Rattle.xs_resp.specs.Progress.{IsProgressOf}
use Rattle.xs_resp.proofs.progress.advance.Given as goal

abbrev pub invariant-loop-progress : goal.invariant-loop-progress
invariant-loop-progress l = IsProgressOf l.bytes l.progress

abbrev pub decreases-loop-progress : goal.decreases-loop-progress
decreases-loop-progress l = l.progress.left
