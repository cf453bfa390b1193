use Rattle.std.proofs.Common.{◌≡◌, ◌⊎◌, inl, inr, ℕ, true, false, Option, is_some, refl, sym, ap, arith}
use Rattle.std.specs.Option.{option_map_or}
use Rattle.std.proofs.lemmas.Bool.{false≢true}
use Rattle.xs_stream.specs.Examples.{at}
use Rattle.xs_keys.proofs.examples.first_ids.Goals as goal

-- it isn't the first, so it is the second
second_so : {A : Type 0} → (false ≡ true) ⊎ A → A
second_so (inl e) = absurd (false≢true e)
second_so (inr a) = a

pub returns : goal.returns
returns c = record {
  not_one_less = λ h. omega (arith, ap (λ (o : Option ℕ). option_map_or (λ a. a) o 0) (second_so (h.in_full (at 2 0) refl)).0);
  not_all_but_one = λ h. false≢true (ap is_some (second_so (h.in_full (at 3 0) refl)).0);
  not_one_that_comes_later = λ h. false≢true (sym (second_so (h.in_full (at 2 0) refl)).1.1.0);
  not_out_of_order = λ h. false≢true h.ascend.0.0;
  not_more_than_asked_for = λ h. omega (arith, h.at_most 1 refl);
  not_another = λ h. false≢true (h.chosen (at 2 1) refl);
  not_one_twice = λ h. false≢true h.ascend.0.0;
}
