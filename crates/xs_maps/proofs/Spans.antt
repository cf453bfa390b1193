-- The entries within a range.
use Rattle.std.proofs.Common.{◌≡◌, ℕ, zero, suc, ◌<◌, List, [], ◌∷◌, length, get_or, take, drop, true, false, refl, sym}
use Rattle.std.proofs.Common.{ap, ◌∙◌, arith, Ordering}
use mathlib.Core.Bool.{true≢false}
use Rattle.std.specs.declared.cmp.Ordering.TheVariants.{Greater}
use Rattle.std.specs.Ordering.{is_le}
use Rattle.std.specs.BTreeMap.Range.{entries_between}
use Rattle.std.specs.declared.ops.Bound.TheVariants.{Unbounded}
use Rattle.std_collections.specs.Btree.Order.{by, past, until}
use Rattle.std_collections.proofs.Seek.{AboveFirst, by_ordering}

pub is-greater : (r : Ordering) → is_le r ≡ false → r ≡ Greater
is-greater r e = by_ordering r (λ h. absurd (true≢false (sym (ap is_le h) ∙ e))) (λ h. absurd (true≢false (sym (ap is_le h) ∙ e))) (λ h. h)

module _ {K X : Type 0} (t : K → Ordering) where
  pub past-at : (es : List (K × X)) (i : ℕ) (d : K × X) → i < length es → AboveFirst t es i → is_le (t (get_or es i d).0) ≡ true → drop i es ≡ past t es
  unfolding past
  past-at [] i d lt above le = absurd (omega arith)
  past-at (x ∷ es) zero d lt above le =
      let step = λ (o : Ordering). by o (x ∷ es) (x ∷ es) (past t es) in
      by_ordering (t x.0) (λ h. sym (ap step h)) (λ h. sym (ap step h)) (λ h. absurd (true≢false (sym le ∙ ap is_le h)))
  past-at (x ∷ es) (suc i) d lt above le =
      past-at es i d (omega arith) above.1 le ∙ sym (ap (λ o. by o (x ∷ es) (x ∷ es) (past t es)) above.0)

  pub past-none : (es : List (K × X)) → AboveFirst t es (length es) → [] ≡ past t es
  unfolding past
  past-none [] above = refl
  past-none (x ∷ es) above = past-none es above.1 ∙ sym (ap (λ o. by o (x ∷ es) (x ∷ es) (past t es)) above.0)

  pub until-at : (es : List (K × X)) (i : ℕ) (d : K × X) → i < length es → AboveFirst t es i → is_le (t (get_or es i d).0) ≡ true → take i es ≡ until t es
  unfolding until
  until-at [] i d lt above le = absurd (omega arith)
  until-at (x ∷ es) zero d lt above le =
      let step = λ (o : Ordering). by o [] [] (x ∷ until t es) in
      by_ordering (t x.0) (λ h. sym (ap step h)) (λ h. sym (ap step h)) (λ h. absurd (true≢false (sym le ∙ ap is_le h)))
  until-at (x ∷ es) (suc i) d lt above le =
      ap (λ l. x ∷ l) (until-at es i d (omega arith) above.1 le) ∙ sym (ap (λ o. by o [] [] (x ∷ until t es)) above.0)

  pub until-all : (es : List (K × X)) → AboveFirst t es (length es) → es ≡ until t es
  unfolding until
  until-all [] above = refl
  until-all (x ∷ es) above = ap (λ l. x ∷ l) (until-all es above.1) ∙ sym (ap (λ o. by o [] [] (x ∷ until t es)) above.0)

pub between-all : {K X : Type 0} (cmp : K → K → Ordering) (es : List (K × X)) → entries_between cmp Unbounded Unbounded es ≡ es
between-all cmp [] = refl
between-all cmp (x ∷ es) = ap (λ l. x ∷ l) (between-all cmp es)
