use Rattle.std.proofs.Common.{◌≡◌, ℕ, List, [], ◌∷◌, refl, sym, ap, subst, T, arith, codes}
use Rattle.xs_keys.specs.Terms.{Reply, Array, NullArray, Id}
use Rattle.xs_keys.specs.ReplyParts.{array}
use Rattle.xs_keys.specs.Telling.{TellsEntry, TellsEach}
use Rattle.xs_keys.specs.Life.{added_at}
use Rattle.xs_keys.specs.ExamplesHistory.{events}
use Rattle.xs_stream.specs.Examples.{at}
use Rattle.xs_keys.specs.PlayedLines.{id as id_told, entry}
use Rattle.xs_keys.specs.ExamplesReplies.{second, read_by_a}
use Rattle.xs_keys.proofs.Computing.{example_functions}
use Rattle.xs_keys.proofs.Assigning.{assigned-claim, assigned-scan}
use Rattle.xs_keys.proofs.examples.reported_claims.Goals as goal

-- the number of items of a reply
count_of : Reply → ℕ
count_of (Array items) = items.count
count_of _ = 0

-- distinguishes the null array from any other reply
kind : Reply → ℕ
kind NullArray = 0
kind _ = 1

-- if an id is reported, there is an item
one_told : (Tells : Id → Reply → Type 0) (x : Id) (xs : List Id) (told : List Reply) → array [] ≡ array told → TellsEach Tells (x ∷ xs) told → ⊥
unfolding count_of
one_told Tells x xs [] is each = each
one_told Tells x xs (first ∷ rest) is each = omega (arith, ap count_of is)

pub returns : goal.returns
unfolding count_of kind example_functions
returns c = record {
  claimed = (λ h. (second ∷ [], refl, ((_, refl, refl), tt), assigned-claim _ _ _ _ _ _ _), λ h. absurd (subst T h tt));
  claimed_ids = (λ h. (id_told 2 0 ∷ [], refl, (refl, tt), assigned-claim _ _ _ _ _ _ _), λ h. absurd (subst T h tt));
  not_none_of_them = λ h. let told = h.0 refl in one_told (TellsEntry (added_at (events 5 read_by_a) (codes "s"))) (at 2 0) [] told.0 told.1 told.2;
  no_claim = (λ h. absurd (subst T (sym h) tt), λ h. refl);
  scanned = (λ h. (entry 3 0 ∷ [], refl, ((_, refl, refl), tt), assigned-scan _ _ _ _ _ _ _ _), λ h. absurd (subst T h tt));
  scanned_one = (λ h. (second ∷ [], refl, ((_, refl, refl), tt), assigned-scan _ _ _ _ _ _ _ _), λ h. absurd (subst T h tt));
  scanned_without_a_deleted_one = (λ h. (entry 3 0 ∷ [], refl, ((_, refl, refl), tt), assigned-scan _ _ _ _ _ _ _ _), λ h. absurd (subst T h tt));
  not_nothing_scanned = λ h. omega (arith, ap kind (h.0 refl).1);
  no_scan = (λ h. absurd (subst T (sym h) tt), λ h. refl);
}
