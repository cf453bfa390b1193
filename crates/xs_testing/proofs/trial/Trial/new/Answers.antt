use Rattle.xs_desk.proofs.Keeps.{ends-new}
use Rattle.xs_testing.proofs.trial.Trial.new.Goals as goal

pub invariant_of-result : goal.invariant_of-result
invariant_of-result c = ends-new _ _ _ c.in_ok-keeper.ensures.new.0
