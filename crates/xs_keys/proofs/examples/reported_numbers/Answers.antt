use Rattle.std.proofs.Common.{◌≡◌, ℕ, ◌+◌, [], ◌∷◌, codes, refl, ap, subst, T, arith}
use Rattle.xs_keys.specs.Terms.{Reply, Int}
use Rattle.xs_keys.specs.ReplyParts.{array}
use Rattle.xs_keys.specs.PlayedLines.{name, id as id_told}
use Rattle.xs_keys.proofs.Computing.{example_functions}
use Rattle.xs_keys.proofs.examples.reported_numbers.Goals as goal

number_in : Reply → ℕ
number_in (Int n) = n
number_in _ = 0

pub returns : goal.returns
unfolding number_in example_functions
returns c = record {
  acknowledged = (2, refl, refl);
  not_all_that_were_named = λ h. let sum : h.0 + 0 ≡ 2 = h.2 in omega (arith, ap number_in h.1, sum);
  acknowledged_in_no_group = (0, refl, refl);
  deleted = (1, refl, refl);
  deleted_of_no_key = (0, refl, refl);
  trimmed = (2, refl, refl);
  all_in_the_stream = refl;
  all_that_are_pending = (λ h. (id_told 2 0 ∷ id_told 3 0 ∷ array (array (name (codes "a") ∷ name (codes "2") ∷ []) ∷ []) ∷ [], refl), λ h. absurd (subst T h tt));
  anything_else = tt;
}
