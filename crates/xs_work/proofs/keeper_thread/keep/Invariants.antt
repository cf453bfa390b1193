use Rattle.xs_desk.specs.KeptRings.{KeepsRings}
use Rattle.xs_work.proofs.keeper_thread.keep.Given as goal

abbrev pub invariant-loop : goal.invariant-loop
invariant-loop g l = KeepsRings l.fn.keeper l.keeper
