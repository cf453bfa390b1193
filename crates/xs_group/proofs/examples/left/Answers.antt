use Rattle.xs_group.proofs.Terms.{refl, sym, subst}
use Rattle.std.specs.Prelude.{T, codes}
use Rattle.xs_stream.specs.Examples.{at}
use Rattle.xs_bytes.specs.SortedMap.{empty, get, insert_by, remove, change}
use Rattle.xs_group.proofs.examples.left.Goals as goal

pub returns : goal.returns
unfolding empty get insert_by remove change
returns c = record {
  received_with_rows = (refl, (refl, refl));
  received_with_noack = (refl, (refl, refl));
  nothing_received = (refl, (refl, refl));
  noack_left_no_row = refl;
  free = λ x h. absurd (subst T (sym h) tt);
  not_free = λ h. subst T (h (at 2 0) refl) tt;
  not_some_of_those = λ h. subst T (sym (h (at 2 0) refl)) tt;
  lacks_one_of_those_besides = λ h. subst T (sym (h (codes "c") (at 2 0))) tt;
  has_one_that_isnt_besides = λ h. subst T (h (codes "a") (at 3 0)) tt;
}
