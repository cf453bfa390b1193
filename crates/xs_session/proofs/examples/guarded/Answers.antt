use Rattle.std.specs.Prelude.{◌≡◌, [], codes, true, false}
use Rattle.std.proofs.Common.{refl, ap, inl, inr}
use Rattle.xs_resp.specs.declared.reply.Reply.{Reply}
use Rattle.xs_resp.specs.declared.reply.Reply.TheVariants.{Simple}
use Rattle.xs_resp.specs.declared.reply.Simple.TheVariants.{Okay}
use Rattle.xs_command.proofs.Computing.{example_functions}
use Rattle.xs_connection.specs.declared.standing.Standing.{Standing}
use Rattle.xs_connection.proofs.Computing as connection
use Rattle.xs_connection.specs.declared.transaction.Transaction.TheVariants.{Closed}
use Rattle.xs_session.specs.Answers.{Says}
use Rattle.xs_session.specs.ExamplesManners.{Becomes, secret, no_auth}
use Rattle.xs_session.proofs.examples.guarded.Goals as goal

beginning : Becomes secret false (codes "AUTH secre") (Says (Simple Okay)) true → ⊥
unfolding example_functions connection.example_functions
beginning (inl (inl (told, answered))) = let never : true ≡ false = ap (λ (said : Reply × Standing). said.1.is_allowed) answered in cc
beginning (inl (inr memory)) = let never = memory.0 in cc
beginning (inr memory) = let never = memory.0 in cc

refused : Becomes secret false (codes "PING") no_auth true → ⊥
unfolding example_functions connection.example_functions
refused (inl (inl (told, answered))) = let never : true ≡ false = ap (λ (said : Reply × Standing). said.1.is_allowed) answered in cc
refused (inl (inr memory)) = let never = memory.0 in cc
refused (inr memory) = let never = memory.0 in cc

pub returns : goal.returns
unfolding example_functions connection.example_functions
returns c = record {
  nothing_is_asked = λ taken. let never = taken.0 in cc;
  no_addition_is_asked = λ taken. let never = taken.0 in cc;
  it_is_refused = inl (inl ([], refl));
  so_is_an_unknown_command = inl (inl ([], refl));
  the_password = inl (inl ([], refl));
  its_beginning = beginning;
  not_by_being_refused = refused;
  a_quit = (refl, refl, refl, refl);
  asked_once_it_is_given = (refl, refl, refl, refl);
  then_an_addition = (_, [], _, _, Closed, refl, inl (inl ([], refl)), refl, inr refl, (_, [], _, _, Closed, refl, (refl, refl, refl, refl), refl, inr refl, (refl, refl)));
}
