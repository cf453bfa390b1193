use Rattle.std.proofs.Common.{ℕ, refl, ap, arith}
use Rattle.xs_keys.specs.Terms.{Reply, NullArray}
use Rattle.xs_keys.proofs.Computing.{example_functions}
use Rattle.xs_keys.proofs.examples.null_replies.Goals as goal

-- distinguishes the null array from any other reply
kind : Reply → ℕ
kind NullArray = 0
kind _ = 1

pub returns : goal.returns
unfolding kind example_functions
returns c = record {
  nothing_new = λ now. refl;
  nothing_new_with_block = λ now. refl;
  deleted = λ now. refl;
  nothing_new_in_two = λ now. refl;
  not_with_new_ones = λ h. omega (arith, ap kind (h 5));
  not_without_a_group = λ h. omega (arith, ap kind (h 5));
  new_ones = λ now h. omega (arith, ap kind h);
  own_entries = λ now h. omega (arith, ap kind h);
  no_key = λ now h. omega (arith, ap kind h);
  no_group = λ now h. omega (arith, ap kind h);
  not_with_nothing_new = λ h. h 5 refl;
}
