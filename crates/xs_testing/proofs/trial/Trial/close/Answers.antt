-- If memory was refused both arguments came back, so the ends are still those of the desk.
use Rattle.std.specs.Prelude.{List}
use Rattle.std.proofs.Common.{sym, subst}
use Rattle.xs_desk.specs.ServedCalls.{Desk}
use Rattle.xs_desk.specs.Callers.{Caller, AreEndsOfLanes}
use Rattle.xs_testing.proofs.trial.Trial.close.Goals as goal

pub close-requires-in-Err-Memory : goal.close-requires-in-Err-Memory
close-requires-in-Err-Memory c =
    let lanes = c.self.inside.keeper.lanes in
    let back = rw (c.in-Err-Memory.field-0-is) at c.in-Err-Memory.ensures.refused in
    let ends : AreEndsOfLanes lanes c.in-Ok.ended.items = subst (λ (es : List Caller). AreEndsOfLanes lanes es) (sym c.in-Ok.ensures) c.self.invariant in
    subst (λ (d : Desk). AreEndsOfLanes d.lanes c.in-Err-Memory.ended.items) (sym back.0)
    (subst (λ (es : List Caller). AreEndsOfLanes lanes es) (sym back.1) ends)
