use Rattle.std.specs.Prelude.{◌≡◌, [], Bool, codes, true, false, None}
use Rattle.std.proofs.Common.{refl, sym, subst, ap, inl, inr}
use Rattle.xs_resp.specs.declared.fault.Fault.TheVariants.{UnknownCommand, Arity}
use Rattle.xs_resp.specs.declared.reply.Reply.{Reply}
use Rattle.xs_resp.specs.declared.reply.Reply.TheVariants.{Simple, Error, ErrorText}
use Rattle.xs_resp.specs.declared.reply.Simple.TheVariants.{Okay}
use Rattle.xs_command.specs.Examples.{line}
use Rattle.xs_command.proofs.Computing.{example_functions}
use Rattle.xs_connection.specs.declared.standing.Standing.{Standing}
use Rattle.xs_connection.proofs.Computing as connection
use Rattle.xs_session.specs.declared.manner.Manner.TheVariants.{Plain, Full}
use Rattle.xs_session.specs.Answers.{Says, IsTaken, IsSaid}
use Rattle.xs_session.specs.Examples.{anyone}
use Rattle.xs_session.specs.ExamplesManners.{Becomes, who}
use Rattle.xs_session.proofs.examples.free.Goals as goal

abbrev has_text : Reply → Bool
has_text (ErrorText text) = true
has_text _ = false

nameless : Becomes None true (codes "GET k") (Says (Error UnknownCommand)) true → ⊥
unfolding example_functions connection.example_functions
nameless (inl (inl (fault, is, said))) =
    let unknown : UnknownCommand ≡ fault = cc in
    let so = subst (λ f. IsSaid (Full None) (who true) (line (codes "GET k")) f (Error UnknownCommand) (who true)) (sym unknown) said in
    elim so.1 [
      | inl answered ↦ (let never : false ≡ true = ap (λ (said : Reply × Standing). has_text said.0) answered.1 in cc)
      | inr memory ↦ (let never = memory.0 in cc)
    ]
nameless (inl (inr (command, is, waits, queued))) = let never = is in cc
nameless (inr memory) = let never = memory.0 in cc

plainly : IsTaken Plain anyone (line (codes "SELECT 0")) (Says (Simple Okay)) anyone → ⊥
unfolding example_functions
plainly (inl (inl (fault, is, said))) = let never = said.0 in cc
plainly (inl (inr (command, is, waits, queued))) = let never = is in cc
plainly (inr memory) = let never = memory.0 in cc

pub returns : goal.returns
unfolding example_functions connection.example_functions
returns c = record {
  a_command = (refl, refl, refl, refl);
  an_unknown_command = inl (inl (UnknownCommand, refl, (refl, inl ([], refl))));
  no_unknown_command_without_its_name = nameless;
  another_fault = inl (inl (Arity, refl, (refl, refl)));
  a_command_of_the_connection = inl (inl (UnknownCommand, refl, (refl, inl ([], refl))));
  plainly_unknown = inl (inl (UnknownCommand, refl, (refl, refl)));
  not_plainly_answered = plainly;
  no_memory = inr (refl, refl);
}
