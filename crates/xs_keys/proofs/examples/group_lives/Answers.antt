use Rattle.std.proofs.Common.{[], ◌∷◌, codes, refl}
use Rattle.xs_keys.specs.ExamplesHistory.{events}
use Rattle.xs_keys.proofs.Computing.{example_functions}
use Rattle.xs_keys.proofs.examples.group_lives.Goals as goal

pub returns : goal.returns
unfolding example_functions
returns c = record {
  at_an_id = refl;
  at_the_top = refl;
  of_a_new_key = refl;
  of_no_key = refl;
  of_another_key = refl;
  another_group = refl;
  is_there_already = refl;
  is_destroyed = refl;
  another_is_destroyed = refl;
  goes_with_its_key = refl;
  lives_that_are_over_too =
      λ h. h (events 5 (codes "DEL s" ∷ [])) (events 5 (codes "XGROUP CREATE s g $ MKSTREAM" ∷ [])) refl (codes "s") (codes "g") _ refl;
  another_key_goes = refl;
  begins_anew = refl;
}
