-- The place of an entry in a list of entries.
use Rattle.std.proofs.Common.{◌≡◌, ℕ, ◌+◌, ◌<◌, suc, zero, Bool, true, false, List, [], ◌∷◌, length, get_or, Some, None}
use Rattle.std.proofs.Common.{sym, ap, ◌∙◌, refl, arith}
use Rattle.std.specs.Map.{lookup, remove_entry}
use Rattle.std.specs.List.{position, position_from, remove}
use Rattle.std.proofs.lemmas.Iterator.Adapters.{position_from-zero}
use Rattle.std.proofs.lemmas.List.Quantifiers.{position-Some}
use Rattle.xs_stream.specs.declared.id.Id.{Id}
use Rattle.xs_stream.specs.declared.field.Field.{Field}

module _ (test : Id → Bool) where
  found_first : (es : List (Id × List Field)) (i : ℕ) (d : Id × List Field) → i < length es → test (get_or es i d).0 ≡ true → ((k : ℕ) → k < i → test (get_or es k d).0 ≡ false) → lookup test es ≡ Some (get_or es i d).1
  found_first [] i d lt h before = absurd (omega arith)
  found_first (e ∷ es) zero d lt h before = rw h refl
  found_first (e ∷ es) (suc i) d lt h before = rw (before 0 (omega arith)) (found_first es i d (omega arith) h (λ k l. before (suc k) (omega arith)))

  -- the entry at the place is the one that is found
  pub lookup-place : (es : List (Id × List Field)) (i : ℕ) (d : Id × List Field) → position (λ e. test e.0) es ≡ Some i → lookup test es ≡ Some (get_or es i d).1
  lookup-place es i d h =
      let at = position-Some (λ (e : Id × List Field). test e.0) es i d h in
      found_first es i d at.0 at.1 at.2

  removed_first : (es : List (Id × List Field)) (i : ℕ) (d : Id × List Field) → i < length es → test (get_or es i d).0 ≡ true → ((k : ℕ) → k < i → test (get_or es k d).0 ≡ false) → remove es i ≡ remove_entry test es
  removed_first [] i d lt h before = absurd (omega arith)
  removed_first (e ∷ es) zero d lt h before = rw h refl
  removed_first (e ∷ es) (suc i) d lt h before = rw (before 0 (omega arith)) (ap (λ rest. e ∷ rest) (removed_first es i d (omega arith) h (λ k l. before (suc k) (omega arith))))

  -- the entry that is removed at the place is that one
  pub remove-place : (es : List (Id × List Field)) (i : ℕ) (d : Id × List Field) → position (λ e. test e.0) es ≡ Some i → remove es i ≡ remove_entry test es
  remove-place es i d h =
      let at = position-Some (λ (e : Id × List Field). test e.0) es i d h in
      removed_first es i d at.0 at.1 at.2

  none_from : (es : List (Id × List Field)) (i : ℕ) → position_from (λ e. test e.0) i es ≡ None → lookup test es ≡ None
  none_from [] i h = refl
  none_from (e ∷ es) i h = by (none_from es (i + 1)) (test e.0) refl where
    by : (position_from (λ f. test f.0) (i + 1) es ≡ None → lookup test es ≡ None) → (t : Bool) → test e.0 ≡ t → lookup test (e ∷ es) ≡ None
    by rest true is = let no = rw is at h in cc
    by rest false is = rw is (rest (rw is at h))

  -- if there is no place nothing is found
  pub lookup-no_place : (es : List (Id × List Field)) → position (λ e. test e.0) es ≡ None → lookup test es ≡ None
  lookup-no_place es h = none_from es 0 (sym (position_from-zero (λ (e : Id × List Field). test e.0) es) ∙ h)

  -- and nothing is removed
  pub remove-none : (es : List (Id × List Field)) → lookup test es ≡ None → remove_entry test es ≡ es
  remove-none [] h = refl
  remove-none (e ∷ es) h = by (remove-none es) (test e.0) refl where
    by : (lookup test es ≡ None → remove_entry test es ≡ es) → (t : Bool) → test e.0 ≡ t → remove_entry test (e ∷ es) ≡ e ∷ es
    by rest true is = let no = rw is at h in cc
    by rest false is = rw is (ap (λ left. e ∷ left) (rest (rw is at h)))
