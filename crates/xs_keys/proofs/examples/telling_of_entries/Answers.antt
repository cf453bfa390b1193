use Rattle.std.proofs.Common.{ℕ, List, [], ◌∷◌, length, Option, is_some, refl, sym, ap, ◌∙◌, subst, T, arith}
use Rattle.std.proofs.lemmas.Bool.{false≢true}
use Rattle.xs_keys.specs.Terms.{Reply, Array, flat_map, option_map_or, Field}
use Rattle.xs_keys.specs.ReplyParts.{array, field_replies}
use Rattle.xs_keys.specs.PlayedLines.{id as id_told}
use Rattle.xs_keys.proofs.examples.telling_of_entries.Goals as goal

-- the number of tokens of a reply after its header
size_of : Reply → ℕ
size_of (Array items) = length items.tokens
size_of _ = 0

pub returns : goal.returns
unfolding size_of
returns c = record {
  by_its_own_fields = (_, refl, refl);
  not_without_its_fields = λ h. omega (arith, ap size_of (h.2 ∙ ap (λ (o : Option (List Field)). array (id_told 2 0 ∷ array (flat_map field_replies (option_map_or (λ a. a) o [])) ∷ [])) (sym h.1)));
  not_one_that_was_never_given = λ h. false≢true (ap is_some h.1);
  in_the_stream = (λ there. (_, refl, refl), λ gone. absurd (subst T gone tt));
  no_longer = (λ there. absurd (subst T (sym there) tt), λ gone. refl);
  no_longer_with_fields = λ h. omega (arith, ap size_of (h.1 refl));
  both_in_turn = ((_, refl, refl), ((_, refl, refl), tt));
  not_the_first_alone = λ h. h.1;
  not_one_more = λ h. h.1;
}
