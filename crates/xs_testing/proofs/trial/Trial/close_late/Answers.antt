-- The last end is one of the desk's, and so are the last two.
use Rattle.std.specs.Prelude.{◌≡◌, List, [], ◌∷◌, ◌++◌, refl}
use Rattle.std.proofs.Common.{sym, subst}
use Rattle.xs_desk.specs.ServedCalls.{LaneOf, Desk}
use Rattle.xs_desk.specs.Callers.{Caller, AreEndsOfLanes}
use Rattle.xs_desk.proofs.Keeps.{ends-pop, ends-push}
use Rattle.xs_testing.proofs.trial.Trial.close_late.Goals as goal

one-end : (lanes : List LaneOf) (all others none ended : List Caller) (first last : Caller)
    → AreEndsOfLanes lanes all → all ≡ (others ++ first ∷ []) ++ last ∷ [] → none ≡ [] → ended ≡ none ++ last ∷ [] → AreEndsOfLanes lanes ended
one-end lanes all others none ended first last are is empty more =
    let before : AreEndsOfLanes lanes none = subst (λ (es : List Caller). AreEndsOfLanes lanes es) (sym empty) (λ i e at. absurd (cc)) in
    subst (λ (es : List Caller). AreEndsOfLanes lanes es) (sym more) (ends-push lanes none last before (ends-pop lanes all (others ++ first ∷ []) last are is).1)

two-ends : (lanes : List LaneOf) (all others some ended : List Caller) (first last : Caller)
    → AreEndsOfLanes lanes all → all ≡ (others ++ first ∷ []) ++ last ∷ [] → AreEndsOfLanes lanes some → ended ≡ some ++ first ∷ [] → AreEndsOfLanes lanes ended
two-ends lanes all others some ended first last are is before more =
    let front : AreEndsOfLanes lanes (others ++ first ∷ []) = (ends-pop lanes all (others ++ first ∷ []) last are is).0 in
    subst (λ (es : List Caller). AreEndsOfLanes lanes es) (sym more) (ends-push lanes some first before (ends-pop lanes (others ++ first ∷ []) others first front refl).1)

pub refused-requires : goal.refused-requires
refused-requires c =
    let others = c.in_ok-first.ensures in
    one-end c.self.inside.keeper.lanes _ others.0 _ _ c.in_ok-first.first c.in_ok-first.last c.self.invariant others.1 c.new.ensures.items c.in_ok-ended.ensures

pub close-requires : goal.close-requires
close-requires c =
    let others = c.in_ok-first.ensures in
    let lanes = c.self.inside.keeper.lanes in
    let one = one-end lanes _ others.0 _ _ c.in_ok-first.first c.in_ok-first.last c.self.invariant others.1 c.new.ensures.items c.in_ok-ended.ensures in
    let back : AreEndsOfLanes lanes c.in_ok-keeper.ended.items = subst (λ (es : List Caller). AreEndsOfLanes lanes es) (sym c.in_ok-keeper.ensures.1) one in
    subst (λ (d : Desk). AreEndsOfLanes d.lanes c.in_ok-ended-2.ended.items) (sym c.in_ok-keeper.ensures.0)
    (two-ends lanes _ others.0 _ _ c.in_ok-first.first c.in_ok-first.last c.self.invariant others.1 back c.in_ok-ended-2.ensures)
