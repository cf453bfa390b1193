use Rattle.xs_desk.specs.KeptRings.{KeepsSide}
use Rattle.xs_desk_tests.proofs.tests.asking.AskingJob.run.Given as goal

abbrev pub invariant-loop : goal.invariant-loop
invariant-loop g l = KeepsSide l.fn.client l.client
