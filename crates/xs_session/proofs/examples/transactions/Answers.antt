use Rattle.std.specs.Prelude.{◌≡◌, [], ◌∷◌, codes, Ok}
use Rattle.std.proofs.Common.{refl, sym, subst, inl, inr}
use Rattle.xs_resp.specs.declared.fault.Fault.TheVariants.{UnknownCommand}
use Rattle.xs_command.specs.Examples.{line}
use Rattle.xs_command.specs.Read.{command_of_words}
use Rattle.xs_command.proofs.Computing.{example_functions}
use Rattle.xs_connection.specs.declared.transaction.Transaction.TheVariants.{Closed, Released}
use Rattle.xs_connection.proofs.Computing as connection
use Rattle.xs_session.specs.Answers.{Asks, AreRun}
use Rattle.xs_session.specs.Examples.{ping, len}
use Rattle.xs_session.proofs.examples.transactions.Goals as goal

another : AreRun (Released (line (codes "PING") ∷ [])) (Asks len ∷ []) Closed → ⊥
unfolding example_functions
another (words, others, is, said, more) =
    let same : line (codes "PING") ≡ words = cc in
    let never = subst (λ w. command_of_words w ≡ Ok len) (sym same) said in cc

pub returns : goal.returns
unfolding example_functions connection.example_functions
returns c = record {
  a_command_waits = inl (inr (ping, refl, refl, inl refl));
  it_is_not_asked = λ taken. let never = taken.2 in cc;
  a_quit_is = (refl, refl, refl, refl);
  asked_by_exec = (_, [], _, _, _, refl, inl (inl (UnknownCommand, refl, (refl, inl ([], refl)))), refl, inr refl, (_, [], _, _, _, refl, inl (inr (ping, refl, refl, inl refl)), refl, inr refl, (_, [], _, _, _, refl, inl (inr (len, refl, refl, inl refl)), refl, inr refl, (_, Asks ping ∷ Asks len ∷ [], _, _, Closed, refl, inl (inl (UnknownCommand, refl, (refl, inl ([], refl)))), (_, _, refl, refl, (_, _, refl, refl, refl)), inl refl, (refl, refl)))));
  before_the_next_one = (_, [], _, _, _, refl, inl (inl (UnknownCommand, refl, (refl, inl ([], refl)))), refl, inr refl, (_, [], _, _, _, refl, inl (inr (ping, refl, refl, inl refl)), refl, inr refl, (_, Asks ping ∷ [], _, _, Closed, refl, inl (inl (UnknownCommand, refl, (refl, inl ([], refl)))), (_, _, refl, refl, refl), inr refl, (_, [], _, _, Closed, refl, (refl, refl, refl, refl), refl, inr refl, (refl, refl)))));
  not_left_out = λ run. let never = run in cc;
  no_other_one = another;
  none_behind_discard = (_, [], _, _, _, refl, inl (inl (UnknownCommand, refl, (refl, inl ([], refl)))), refl, inr refl, (_, [], _, _, _, refl, inl (inr (ping, refl, refl, inl refl)), refl, inr refl, (_, [], _, _, Closed, refl, inl (inl (UnknownCommand, refl, (refl, inl ([], refl)))), refl, inr refl, (refl, refl))));
}
