-- A turn, lane by lane.
use Rattle.std.specs.Prelude.{◌≡◌, ℕ, ◌+◌, ◌≤◌, List, [], ◌∷◌, ◌++◌, length, slice_get, Some, Result, Ok, Err}
use Rattle.std.specs.Prelude.{MatchResult, refl}
use Rattle.std.proofs.Common.{subst, ap, inl, inr, arith, length-append}
use Rattle.xs_desk.specs.ServedCalls.{ServedCall, Desk}
use Rattle.xs_desk.specs.KeeperTurns.{with_call, ServesCall, ServesAll, TellsMoments, LanesAscend, Turns, HasPlaces}
use Rattle.xs_desk.proofs.Lists.{set-cases}

pub serves-snoc : (old : Desk) (calls : List ServedCall) (mid : Desk) (call : ServedCall) (new : Desk) → ServesAll old calls mid → ServesCall mid call new → ServesAll old (calls ++ call ∷ []) new
serves-snoc old [] mid call new s t = (new, subst (λ x. ServesCall x call new) s t, refl)
serves-snoc old (x ∷ xs) mid call new s t = (s.0, s.1, serves-snoc s.0 xs mid call new s.2 t)

pub moments-snoc : {C : Type 0} (gives : C → ℕ → C → Type 0) (old : C) (calls : List ServedCall) (mid : C) (call : ServedCall) (new : C)
    → TellsMoments gives old calls mid → gives mid call.answer.moment new → TellsMoments gives old (calls ++ call ∷ []) new
moments-snoc gives old [] mid call new m g = (new, subst (λ x. gives x call.answer.moment new) m g, refl)
moments-snoc gives old (x ∷ xs) mid call new m g = (m.0, m.1, moments-snoc gives m.0 xs mid call new m.2 g)

pub ascend-snoc : (low : ℕ) (calls : List ServedCall) (mid : ℕ) (call : ServedCall) → LanesAscend low calls mid → mid ≤ call.lane → LanesAscend low (calls ++ call ∷ []) (call.lane + 1)
ascend-snoc low [] mid call a le = (omega (arith, a, le), omega arith)
ascend-snoc low (x ∷ xs) mid call a le = (a.0, ascend-snoc (x.lane + 1) xs mid call a.1 le)

pub ascend-more : (low : ℕ) (calls : List ServedCall) (mid high : ℕ) → LanesAscend low calls mid → mid ≤ high → LanesAscend low calls high
ascend-more low [] mid high a le = omega (arith, a, le)
ascend-more low (x ∷ xs) mid high a le = (a.0, ascend-more (x.lane + 1) xs mid high a.1 le)

ascend-length : (low : ℕ) (calls : List ServedCall) (high : ℕ) → LanesAscend low calls high → low + length calls ≤ high
ascend-length low [] high a = omega (arith, a)
ascend-length low (x ∷ xs) high a = omega (arith, a.0, ascend-length (x.lane + 1) xs high a.1)

module _ {C : Type 0} (gives : C → ℕ → C → Type 0) (old : Desk) (clock : C) where
  unfoldable pub turns-none : Turns gives old clock 0 0 old clock
  turns-none = record { calls = []; served = refl; in_order = omega arith; moments = refl; counted = refl }

  -- a lane was skipped
  unfoldable pub turns-on : (n high : ℕ) (new : Desk) (later : C) (more : ℕ) → Turns gives old clock n high new later → high ≤ more → Turns gives old clock n more new later
  turns-on n high new later more t le = record { calls = t.calls; served = t.served; in_order = ascend-more 0 t.calls high more t.in_order le; moments = t.moments; counted = t.counted }

  unfoldable pub turns-more : (n : ℕ) (mid : Desk) (between : C) (call : ServedCall) (new : Desk) (later : C)
      → Turns gives old clock n call.lane mid between → ServesCall mid call new → gives between call.answer.moment later → Turns gives old clock (n + 1) (call.lane + 1) new later
  turns-more n mid between call new later t s g = record {
    calls = t.calls ++ call ∷ [];
    served = serves-snoc old t.calls mid call new t.served s;
    in_order = ascend-snoc 0 t.calls call.lane call t.in_order (omega arith);
    moments = moments-snoc gives clock t.calls between call later t.moments g;
    counted = omega (arith, t.counted, length-append t.calls (call ∷ []));
  }

  pub turns-few : (n high : ℕ) (new : Desk) (later : C) → Turns gives old clock n high new later → n ≤ high
  turns-few n high new later t = omega (arith, t.counted, ascend-length 0 t.calls high t.in_order)

  -- whatever a turn returns, it has served some calls
  pub turns-anyhow : {E : Type 0} (high : ℕ) (new : Desk) (later : C) (Z : Type 0) (r : Result ℕ E)
      → MatchResult r (λ n. Turns gives old clock n high new later) (λ _. (n : ℕ) × Turns gives old clock n high new later × Z) → (n : ℕ) × Turns gives old clock n high new later
  turns-anyhow high new later Z (Ok n) t = (n, t)
  turns-anyhow high new later Z (Err e) t = (t.0, t.1)

pub places-stay : (old : Desk) (call : ServedCall) (new : Desk) → HasPlaces old → ServesCall old call new → HasPlaces new
places-stay old call new has s k lane at =
    elim (set-cases old.lanes call.lane k (with_call s.lane call) lane (subst (λ ls. slice_get ls k ≡ Some lane) s.lanes_are at)) [
      | inl p ↦ omega (arith, ap (λ x. length x.sent) p.1, length-append s.lane.sent (call.answer ∷ []), has call.lane s.lane s.here, s.next_is)
      | inr p ↦ omega (arith, has k lane p.1, s.next_is)
    ]
