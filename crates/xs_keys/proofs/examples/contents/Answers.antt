use Rattle.std.proofs.Common.{codes, is_some, refl, ap, length, subst, T, arith}
use Rattle.xs_bytes.specs.SortedMap.{empty, get, insert_by, remove, change}
use Rattle.xs_stream.specs.StreamContent.{StreamState}
use Rattle.xs_keys.specs.Content.{IsGroupOfLife}
use Rattle.xs_keys.proofs.examples.contents.Goals as goal

pub returns : goal.returns
unfolding empty get insert_by remove change
returns c = record {
  of_a_key = (refl, λ group. tt);
  no_key = λ group. tt;
  not_another_top = λ h. omega (arith, ap (λ (k : StreamState). k.top.ms) h.0);
  not_without_its_entry = λ h. omega (arith, ap (λ (k : StreamState). length k.entries) h.0);
  not_without_a_life = λ h. h;
  not_without_a_key = λ h. h;
  not_without_its_group = λ h. h.1 (codes "g");
  no_group_without_a_key = λ h. h (codes "g");
  of_no_group = tt;
  of_a_new_group = record { cursor_is = refl; consumers_are = λ name. refl; rows_are = refl };
  not_a_group_without_a_life = λ h. h;
  not_a_life_without_a_group = λ h. h;
  not_another_start = λ h. omega (arith, ap (λ i. i.ms) (IsGroupOfLife.cursor_is h));
  not_before_its_read = λ h. omega (arith, ap (λ i. i.ms) (IsGroupOfLife.cursor_is h));
  not_after_a_read = λ h. omega (arith, ap (λ i. i.ms) (IsGroupOfLife.cursor_is h));
  not_with_a_consumer = λ h. subst T (ap is_some (IsGroupOfLife.consumers_are h (codes "b"))) tt;
}
