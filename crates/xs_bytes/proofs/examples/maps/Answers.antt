use Rattle.std.proofs.Common.{refl}
use Rattle.xs_bytes.specs.SortedMap.{empty, get, insert_by, remove, change}
use Rattle.xs_bytes.proofs.examples.maps.Goals as goal

pub returns : goal.returns
unfolding empty get insert_by remove change
returns c = record {
  in_the_order_of_bytes = refl;
  the_first_of_two_stands = refl;
  has = refl;
  hasnt = refl;
  has_its_key = refl;
  hasnt_a_longer_one = refl;
  nothing_at_all = refl;
  put_first = refl;
  put_last = refl;
  put_again = refl;
  removed = refl;
  nothing_removed = refl;
  each_changed = refl;
  a_value_kept = refl;
  no_value_kept = refl;
  each_entry = refl;
}
