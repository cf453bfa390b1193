use Rattle.std.proofs.Common.{◌≡◌, ℕ, ◌<◌}
use Rattle.std.specs.Prelude.{slice_get, Some}
use Rattle.xs_desk.specs.Callers.{Caller}
use Rattle.xs_desk.proofs.closing.end_of.Given as goal

abbrev pub invariant-loop-i : goal.invariant-loop-i
invariant-loop-i l = (j : ℕ) (e : Caller) → j < l.i → slice_get l.ended.items j ≡ Some e → e.lane ≡ l.lane → ⊥
