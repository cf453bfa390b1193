-- The two sides of each lane, one lane after the other.
use Rattle.std.specs.Prelude.{◌≡◌, ℕ, ◌+◌, ◌<◌, true, List, [], ◌∷◌, ◌++◌, length, map, slice_get, slice_set, get_or}
use Rattle.std.specs.Prelude.{Option, Some, None, IfSome, is_some, refl}
use Rattle.std.proofs.Common.{sym, ◌∙◌, ap, subst, inl, inr, arith, length-append}
use Rattle.std.proofs.lemmas.List.{set-get_or}
use Rattle.std.proofs.lemmas.Option.{slice_get_read}
use Rattle.xs_desk.specs.declared.lane_end.LaneEnd.{LaneEnd}
use Rattle.xs_desk.specs.declared.summary.LaneSummary.{LaneSummary}
use Rattle.xs_desk.specs.ServedCalls.{LaneOf}
use Rattle.xs_desk.specs.LaneEnds.{lane_of}
use Rattle.xs_desk.specs.Callers.{Caller, AreEndsOfLanes, IsSide}
use Rattle.xs_desk.specs.Closing.{SumsUp, SumUp}
use Rattle.xs_desk.proofs.Lists.{same_some, snoc-cases}
use Rattle.xs_desk.proofs.Looking.{lane_end-at}

-- the seat and the end that were found are the two sides of lane k
pub side-of : (all : List LaneEnd) (lanes : List LaneOf) (ends0 ends : List Caller) (k at : ℕ) (s : LaneEnd) (e : Caller)
    → AreEndsOfLanes lanes ends0 → ends ≡ ends0 → map lane_of all ≡ lanes → k < length all → s ≡ get_or all k s → at < length ends → e ≡ get_or ends at e
    → ((x : Caller) × (slice_get ends at ≡ Some x) × (x.lane ≡ k))
    → (slice_get lanes k ≡ Some (lane_of s)) × (slice_get ends0 at ≡ Some e) × (e.lane ≡ k) × IsSide (lane_of s) e
side-of all lanes ends0 ends k at s e are same maps lt q lt' q' found =
    let here : slice_get ends at ≡ Some e = slice_get_read ends (length ends) at e refl lt' q' in
    let x : found.0 ≡ e = same_some _ _ (sym found.1 ∙ here) in
    let lane : e.lane ≡ k = ap (λ (c : Caller). c.lane) (sym x) ∙ found.2 in
    let here0 : slice_get ends0 at ≡ Some e = subst (λ es. slice_get es at ≡ Some e) same here in
    let a = are at e here0 in
    let lane_end : slice_get lanes k ≡ Some (lane_of s) = subst (λ ls. slice_get ls k ≡ Some (lane_of s)) maps (lane_end-at all k s lt q) in
    let l : a.0 ≡ lane_of s = same_some _ _ (sym a.1 ∙ ap (λ (j : ℕ). slice_get lanes j) lane ∙ lane_end) in
    (lane_end, here0, lane, subst (λ (m : LaneOf). IsSide m e) l a.2)

pub sum-up-none : (lanes : List LaneOf) (ends : List Caller) → SumUp lanes ends 0 []
sum-up-none lanes ends = record { count = refl; each = λ j l s gl gs. absurd (cc) }

pub sum-up-more : (lanes : List LaneOf) (ends : List Caller) (k : ℕ) (ss : List LaneSummary) (l : LaneOf) (at : ℕ) (e : Caller) (s : LaneSummary)
    → SumUp lanes ends k ss → slice_get lanes k ≡ Some l → slice_get ends at ≡ Some e → e.lane ≡ k → SumsUp l e s → SumUp lanes ends (k + 1) (ss ++ s ∷ [])
sum-up-more lanes ends k ss l at e s c gl ge lane is = record {
  count = omega (arith, c.count, length-append ss (s ∷ []));
  each = λ j m t gm gt. elim (snoc-cases ss s j t gt) [
    | inl p ↦ c.each j m t gm p
    | inr p ↦
        let jk : j ≡ k = omega (arith, p.0, c.count) in
        let ml : m ≡ l = same_some _ _ (sym gm ∙ ap (λ (i : ℕ). slice_get lanes i) jk ∙ gl) in
        (at, e, ge, lane ∙ sym jk, subst (λ (x : LaneSummary). SumsUp m e x) (sym p.1) (subst (λ (x : LaneOf). SumsUp x e s) (sym ml) is))
  ];
}

pub same-ends : (ends : List Caller) (at : ℕ) (e e' : Caller) → e ≡ get_or ends at e → e' ≡ e → slice_set ends at e' ≡ ends
same-ends ends at e e' q same = ap (λ (x : Caller). slice_set ends at x) (same ∙ q) ∙ set-get_or ends at e

pub found-when : (o : Option ℕ) (P : ℕ → Type 0) → IfSome o P → is_some o ≡ true → (i : ℕ) × P i
found-when (Some i) P p e = (i, p)
found-when None P p e = absurd (cc)
