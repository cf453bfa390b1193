use Rattle.std.specs.Prelude.{◌≡◌, [], ◌∷◌, codes}
use Rattle.std.proofs.Common.{refl, sym, subst, inl, inr}
use Rattle.xs_resp.specs.declared.fault.Fault.TheVariants.{UnknownCommand}
use Rattle.xs_command.specs.Examples.{line}
use Rattle.xs_command.proofs.Computing.{example_functions}
use Rattle.xs_connection.specs.declared.transaction.Transaction.TheVariants.{Closed}
use Rattle.xs_session.specs.Answers.{Asks}
use Rattle.xs_session.specs.Examples.{ping, len, anyone}
use Rattle.xs_session.proofs.PlainRequests.{IsTakenPlainly, AreTakenPlainly, all-plainly}
use Rattle.xs_session.proofs.examples.taken_in_order.Goals as goal

left_out : AreTakenPlainly (line (codes "PING") ∷ line (codes "XLEN k") ∷ []) (Asks len ∷ []) → ⊥
left_out (first, others, is, so, (second, more, split, also, none)) = cc

twice : AreTakenPlainly (line (codes "PING") ∷ []) (Asks ping ∷ Asks ping ∷ []) → ⊥
twice (first, others, is, so, none) = cc

other_order : AreTakenPlainly (line (codes "PING") ∷ line (codes "XLEN k") ∷ []) (Asks len ∷ Asks ping ∷ []) → ⊥
unfolding example_functions
other_order (first, others, is, so, rest) =
    let len_first : Asks len ≡ first = cc in
    let said = subst (λ f. IsTakenPlainly (line (codes "PING")) f) (sym len_first) so in cc

pub returns : goal.returns
unfolding example_functions
returns c = record {
  none = (refl, refl);
  three = (_, [], _, _, Closed, refl, (refl, refl, refl, refl), refl, inr refl, (_, [], _, _, Closed, refl, inl (inl (UnknownCommand, refl, (refl, refl))), refl, inr refl, (_, [], _, _, Closed, refl, (refl, refl, refl, refl), refl, inr refl, (refl, refl))));
  no_words = (_, [], _, _, Closed, refl, (refl, refl, refl, refl), refl, inr refl, (refl, refl));
  one_without_memory = (_, [], _, _, Closed, refl, inr (refl, refl), refl, inr refl, (_, [], _, _, Closed, refl, (refl, refl, refl, refl), refl, inr refl, (refl, refl)));
  nothing_from_nowhere = λ are. let never = are.0 in cc;
  no_answer_to_no_words = λ are. let never = are.0 in cc;
  none_left_out = λ are. left_out (all-plainly anyone anyone (line (codes "PING") ∷ line (codes "XLEN k") ∷ []) (Asks len ∷ []) refl are);
  none_twice = λ are. twice (all-plainly anyone anyone (line (codes "PING") ∷ []) (Asks ping ∷ Asks ping ∷ []) refl are);
  no_other_order = λ are. other_order (all-plainly anyone anyone (line (codes "PING") ∷ line (codes "XLEN k") ∷ []) (Asks len ∷ Asks ping ∷ []) refl are);
}
