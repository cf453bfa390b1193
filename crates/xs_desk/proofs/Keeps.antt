-- The rings stay the same through a turn, so the ends that come back belong to the keeper's lanes.
use Rattle.std.specs.Prelude.{◌≡◌, ℕ, zero, suc, ◌+◌, ◌<◌, List, [], ◌∷◌, ◌++◌, length, map, get_or, slice_get, Some}
use Rattle.std.specs.Prelude.{Result, MatchResult, refl}
use Rattle.std.proofs.Common.{sym, ◌∙◌, ap, subst, inl, inr, arith}
use Rattle.std.proofs.Math.Seq.{map-set_same}
use Rattle.std.proofs.lemmas.Option.{get_or_from_slice_get, slice_get-map, slice_get_within}
use Rattle.std.proofs.lemmas.List.{length-map}
use Rattle.std.specs.Option.{option_map}
use Rattle.xs_desk.specs.ServedCalls.{Ring, LaneOf, Desk, ServedCall}
use Rattle.xs_desk.specs.KeeperTurns.{with_call, ServesCall, ServesAll, Turns}
use Rattle.xs_desk.specs.Callers.{Caller, IsEndOf, AreEndsOfLanes, IsSide}
use Rattle.xs_desk.specs.Opening.{AreNew}
use Rattle.xs_desk.specs.KeptRings.{rings_of, KeepsRings, KeepsSide, KeepSides}
use Rattle.xs_desk.proofs.Lists.{some-at, some-of-map, snoc-cases, still-at, last-at}
use Rattle.xs_desk.proofs.Turning.{turns-anyhow}

serves-keeps : (old : Desk) (call : ServedCall) (new : Desk) → ServesCall old call new → KeepsRings old new
serves-keeps old call new s =
    ap (map rings_of) s.lanes_are ∙ map-set_same rings_of old.lanes call.lane (with_call s.lane call) s.lane (ap rings_of (sym (get_or_from_slice_get old.lanes call.lane s.lane s.lane s.here)))

serves-all-keeps : (old : Desk) (calls : List ServedCall) (new : Desk) → ServesAll old calls new → KeepsRings old new
serves-all-keeps old [] new s = ap (λ (x : Desk). map rings_of x.lanes) s
serves-all-keeps old (call ∷ calls) new s = serves-all-keeps s.0 calls new s.2 ∙ serves-keeps old call s.0 s.1

pub turn-keeps-rings : {C E : Type 0} (gives : C → ℕ → C → Type 0) (old : Desk) (clock : C) (high : ℕ) (new : Desk) (later : C) (Z : Type 0) (r : Result ℕ E)
    → MatchResult r (λ n. Turns gives old clock n high new later) (λ _. (n : ℕ) × Turns gives old clock n high new later × Z) → KeepsRings old new
turn-keeps-rings gives old clock high new later Z r m =
    let t = (turns-anyhow gives old clock high new later Z r m).1 in serves-all-keeps old t.calls new t.served

-- client i of a new desk is a side of lane i
new-side : (k depth : ℕ) (ls : List LaneOf) (cs : List Caller) → AreNew k depth ls cs → (i : ℕ) (c : Caller) → slice_get cs i ≡ Some c
    → (l : LaneOf) × (slice_get ls i ≡ Some l) × IsSide l c × (c.lane ≡ k + i)
new-side k depth [] [] a i c e = absurd (cc)
new-side k depth (x ∷ xs) [] a i c e = absurd a
new-side k depth [] (y ∷ ys) a i c e = absurd a
new-side k depth (x ∷ xs) (y ∷ ys) a zero c e =
    let q : y ≡ c = cc in (x, refl, subst (λ (z : Caller). IsSide x z) q a.0.side, ap (λ (z : Caller). z.lane) (sym q) ∙ a.0.number ∙ omega arith)
new-side k depth (x ∷ xs) (y ∷ ys) a (suc i) c e =
    let h = new-side (k + 1) depth xs ys a.1 i c e in (h.0, h.1, h.2, h.3 ∙ omega arith)

pub ends-new : (depth : ℕ) (lanes : List LaneOf) (clients : List Caller) → AreNew 0 depth lanes clients → AreEndsOfLanes lanes clients
ends-new depth lanes clients are i e at =
    let n = new-side 0 depth lanes clients are i e at in
    let lane : e.lane ≡ i = n.3 ∙ omega arith in
    (n.0, ap (λ (j : ℕ). slice_get lanes j) lane ∙ n.1, n.2)

pub ends-turned : (old new : Desk) (ends : List Caller) → AreEndsOfLanes old.lanes ends → KeepsRings old new → AreEndsOfLanes new.lanes ends
ends-turned old new ends are rings i e at =
    let a = are i e at in
    let here : slice_get (map rings_of old.lanes) e.lane ≡ Some (rings_of a.0) = slice_get-map rings_of old.lanes e.lane ∙ ap (option_map rings_of) a.1 in
    let there : slice_get (map rings_of new.lanes) e.lane ≡ Some (rings_of a.0) = ap (λ (ls : List (Ring × Ring)). slice_get ls e.lane) rings ∙ here in
    let l = some-of-map rings_of new.lanes e.lane (rings_of a.0) there in
    (l.0, l.1, (ap (λ (p : Ring × Ring). p.0) l.2 ∙ a.2.0, ap (λ (p : Ring × Ring). p.1) l.2 ∙ a.2.1))

pub ends-kept : (lanes : List LaneOf) (clients ends : List Caller) → AreEndsOfLanes lanes clients → KeepSides clients ends → AreEndsOfLanes lanes ends
ends-kept lanes clients ends are sides i e at =
    let s = sides i e at in
    let a = are i s.0 s.1 in
    (a.0, ap (λ (j : ℕ). slice_get lanes j) s.2.0 ∙ a.1, (a.2.0 ∙ sym s.2.1, a.2.1 ∙ sym s.2.2))

pub ends-push : (lanes : List LaneOf) (ends : List Caller) (end : Caller) → AreEndsOfLanes lanes ends → IsEndOf lanes end → AreEndsOfLanes lanes (ends ++ end ∷ [])
ends-push lanes ends end are is i e at = elim (snoc-cases ends end i e at) [ inl p ↦ are i e p | inr p ↦ subst (λ (x : Caller). IsEndOf lanes x) (sym p.1) is ]

-- the last of some ends, and the others
pub ends-pop : (lanes : List LaneOf) (all ends : List Caller) (end : Caller) → AreEndsOfLanes lanes all → all ≡ ends ++ end ∷ [] → AreEndsOfLanes lanes ends × IsEndOf lanes end
ends-pop lanes all ends end are is = (
  (λ i e at. are i e (ap (λ (xs : List Caller). slice_get xs i) is ∙ still-at ends end i e at)),
  are (length ends) end (ap (λ (xs : List Caller). slice_get xs (length ends)) is ∙ last-at ends end),
)

-- if each client at its place kept its side
pub sides-kept : {S : Type 0} (f : S → Caller) (js : List S) (clients ends : List Caller) → map f js ≡ clients → length ends ≡ length js
    → ((i : ℕ) (s : S) (e : Caller) → i < length js → KeepsSide (f (get_or js i s)) (get_or ends i e)) → KeepSides clients ends
sides-kept f js clients ends is len each i e at =
    let lt : i < length js = omega (arith, slice_get_within ends i e at, len) in
    let s = some-at js i lt in
    let k = each i s.0 e lt in
    let fs : f (get_or js i s.0) ≡ f s.0 = ap f (get_or_from_slice_get js i s.0 s.0 s.1) in
    let es : get_or ends i e ≡ e = get_or_from_slice_get ends i e e at in (
      f s.0,
      ap (λ (xs : List Caller). slice_get xs i) (sym is) ∙ slice_get-map f js i ∙ ap (option_map f) s.1,
      subst (λ (x : Caller). KeepsSide x e) fs (subst (λ (x : Caller). KeepsSide (f (get_or js i s.0)) x) es k),
    )

pub keeps-count : (old new : Desk) → KeepsRings old new → length new.lanes ≡ length old.lanes
keeps-count old new k = sym (length-map new.lanes rings_of) ∙ ap length k ∙ length-map old.lanes rings_of
