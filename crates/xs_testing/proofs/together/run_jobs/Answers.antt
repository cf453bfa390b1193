-- Each client that comes back with its job has kept its side.
use Rattle.std.specs.Prelude.{◌≡◌, ℕ, ◌<◌, List, length, map, get_or, slice_get}
use Rattle.std.proofs.Common.{sym, ◌∙◌, ap, subst, arith}
use Rattle.std.proofs.lemmas.Option.{get_or_from_slice_get, slice_get-map, slice_get_within}
use Rattle.std.specs.Option.{option_map}
use Rattle.xs_desk.specs.Callers.{Caller}
use Rattle.xs_desk.specs.KeptRings.{KeepsSide, KeepSides}
use Rattle.xs_desk.proofs.Lists.{some-at, some-of-map}
use Rattle.xs_testing.proofs.together.run_jobs.Goals as goal

sides-of-both : {S : Type 0} (f : S → Caller) (js ks : List S) (clients ends : List Caller) → map f js ≡ clients → ends ≡ map f ks → length ks ≡ length js
    → ((i : ℕ) (s e : S) → i < length js → KeepsSide (f (get_or js i s)) (f (get_or ks i e))) → KeepSides clients ends
sides-of-both f js ks clients ends before after len each i end at =
    let k = some-of-map f ks i end (ap (λ (xs : List Caller). slice_get xs i) (sym after) ∙ at) in
    let lt : i < length js = omega (arith, slice_get_within ks i k.0 k.1, len) in
    let s = some-at js i lt in
    let kept = each i s.0 k.0 lt in
    let old : f (get_or js i s.0) ≡ f s.0 = ap f (get_or_from_slice_get js i s.0 s.0 s.1) in
    let new : f (get_or ks i k.0) ≡ end = ap f (get_or_from_slice_get ks i k.0 k.0 k.1) ∙ k.2 in (
      f s.0,
      ap (λ (xs : List Caller). slice_get xs i) (sym before) ∙ slice_get-map f js i ∙ ap (option_map f) s.1,
      subst (λ (x : Caller). KeepsSide x end) old (subst (λ (x : Caller). KeepsSide (f (get_or js i s.0)) x) new kept),
    )

pub returns-clause-clients : goal.returns-clause-clients
returns-clause-clients g c =
    sides-of-both (λ s. s.client) c.in_ok-seated.seated.items c.in_ok-keeper.seated.items _ _ c.in_ok-seated.ensures c.in_ok-clients.ensures c.in_ok-keeper.ensures.len c.in_ok-keeper.ensures.each
