-- An assigned id is above the top.
use Rattle.std.proofs.Common.{◌≡◌, ℕ, ◌+◌, ◌<◌, Bool, true, false, cond, ltb, eqb, Ok, Err, Result, refl, arith, subst}
use Rattle.std.proofs.lemmas.Bool.Decides.{nat_tests}
use Rattle.xs_stream.specs.declared.id.Id.{Id}
use Rattle.xs_stream.specs.declared.add.AddId.{AddId}
use Rattle.xs_stream.specs.declared.add.AddId.TheVariants.{Auto, AutoSeq, Exact}
use Rattle.xs_stream.specs.declared.add.AddError.{AddError}
use Rattle.xs_stream.specs.declared.add.AddError.TheVariants.{Small, Exhausted}
use Rattle.xs_stream.specs.Id.{is_below, is_same_id, greatest_number, greatest_id, id_of_addition, id_of_addition_above}
use Rattle.xs_stream.specs.Id.{successor}

-- an id with later milliseconds is above
below-later : (m n s t : ℕ) → m < n → is_below (record { ms = m; seq = s }) (record { ms = n; seq = t }) ≡ true
below-later m n s t h = let e : ltb m n ≡ true = grind (arith, nat_tests) in rw e refl

-- and one with a later sequence of the same millisecond
below-next : (m s t : ℕ) → s < t → is_below (record { ms = m; seq = s }) (record { ms = m; seq = t }) ≡ true
below-next m s t h =
    let e : ltb m m ≡ false = grind (arith, nat_tests) in
    let f : eqb m m ≡ true = grind (arith, nat_tests) in
    let g : ltb s t ≡ true = grind (arith, nat_tests) in
    rw (e, f, g) refl

ok-inj : (a b : Id) → ◌≡◌ {A = Result Id AddError} (Ok a) (Ok b) → a ≡ b
ok-inj a b e = cc

successor-above : (top : Id) → is_below top (successor top) ≡ true
successor-above top = by (ltb top.seq greatest_number) refl where
  by : (t : Bool) → ltb top.seq greatest_number ≡ t → is_below top (cond t (record { ms = top.ms; seq = top.seq + 1 }) (record { ms = top.ms + 1; seq = 0 })) ≡ true
  by true e = below-next top.ms top.seq (top.seq + 1) (omega arith)
  by false e = below-later top.ms (top.ms + 1) top.seq 0 (omega arith)

to_below : (top id given : Id) → ◌≡◌ {A = Result Id AddError} (Ok id) (Ok given) → is_below top id ≡ true → is_below top given ≡ true
to_below top id given e h = subst (λ x. is_below top x ≡ true) (ok-inj id given e) h

pub assigned_above-above : (now : ℕ) (top : Id) (add : AddId) (given : Id) → id_of_addition_above now top add ≡ Ok given → is_below top given ≡ true
assigned_above-above now top Auto given e = by (ltb top.ms now) refl (ok-inj _ _ e) where
  by : (t : Bool) → ltb top.ms now ≡ t → cond t (record { ms = now; seq = 0 }) (successor top) ≡ given → is_below top given ≡ true
  by true f h = subst (λ x. is_below top x ≡ true) h (below-later top.ms now top.seq 0 (grind (arith, nat_tests)))
  by false f h = subst (λ x. is_below top x ≡ true) h (successor-above top)
assigned_above-above now top (AutoSeq ms) given e = by (eqb ms top.ms) (ltb top.seq greatest_number) (ltb top.ms ms) refl refl e where
  by : (s t u : Bool) → eqb ms top.ms ≡ s → ltb top.ms ms ≡ u
      → cond s (cond t (Ok (record { ms = ms; seq = top.seq + 1 })) (Err Small)) (cond u (Ok (record { ms = ms; seq = 0 })) (Err Small)) ≡ Ok given → is_below top given ≡ true
  by true true u f g h =
      let same : ms ≡ top.ms = grind (arith, nat_tests) in
      to_below top _ given h (rw same (below-next top.ms top.seq (top.seq + 1) (omega arith)))
  by true false u f g h = cc
  by false t true f g h = to_below top _ given h (below-later top.ms ms top.seq 0 (grind (arith, nat_tests)))
  by false t false f g h = cc
assigned_above-above now top (Exact id) given e = by (is_below top id) refl e where
  by : (t : Bool) → is_below top id ≡ t → cond t (Ok id) (Err Small) ≡ Ok given → is_below top given ≡ true
  by true f h = to_below top id given h f
  by false f h = cc

pub assigned-above : (now : ℕ) (top : Id) (add : AddId) (given : Id) → id_of_addition now top add ≡ Ok given → is_below top given ≡ true
assigned-above now top add given e = by (is_same_id top greatest_id) e where
  by : (t : Bool) → cond t (Err Exhausted) (id_of_addition_above now top add) ≡ Ok given → is_below top given ≡ true
  by true h = cc
  by false h = assigned_above-above now top add given h
