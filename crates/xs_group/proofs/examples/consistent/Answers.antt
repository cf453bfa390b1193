use Rattle.xs_group.proofs.Terms.{refl, sym, subst}
use Rattle.std.specs.Prelude.{T, codes}
use Rattle.xs_stream.specs.Examples.{at}
use Rattle.xs_bytes.specs.SortedMap.{empty, get, insert_by}
use Rattle.xs_group.proofs.examples.consistent.Goals as goal

pub returns : goal.returns
unfolding empty get insert_by
returns c =
    record {
      apart = (refl, (refl, (refl, tt)));
      not_apart = λ h. subst T h.0 tt;
      not_apart_at_the_end = λ h. subst T h.1.0 tt;
      owner = refl;
      another = refl;
      nobody = refl;
      above_the_cursor = λ h. subst T (h (at 3 0) refl) tt;
      of_no_consumer = λ h. subst T (sym (h (codes "b") (at 2 0) refl)) tt;
    }
