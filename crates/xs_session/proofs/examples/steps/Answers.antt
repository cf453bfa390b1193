use Rattle.std.specs.Prelude.{◌≡◌, ℕ, false, true, List, [], codes, Option, None, Ok}
use Rattle.std.proofs.Common.{refl, subst}
use Rattle.xs_resp.specs.declared.read_fault.ProtocolFault.TheVariants.{Shape}
use Rattle.xs_resp.specs.Grammar.{IsOpen}
use Rattle.xs_resp.specs.Examples.{wire}
use Rattle.xs_resp.proofs.Computing.{example_functions}
use Rattle.xs_resp.proofs.Decisions.{request-fault, request-open}
use Rattle.xs_session.specs.declared.ending.Ending.{Ending}
use Rattle.xs_session.specs.Session.{Waits}
use Rattle.xs_session.proofs.SpelledExamples.{spelled-none}
use Rattle.xs_session.proofs.examples.steps.Goals as goal

open-of : (ended : Option Ending) (bytes : List ℕ) → Waits ended (Ok bytes) → IsOpen bytes
open-of ended bytes (none, (others, is, opens)) = let same : others ≡ bytes = cc in subst IsOpen same opens

pub returns : goal.returns
unfolding example_functions
returns c = record {
  nothing_asked = refl;
  a_command_asked = refl;
  a_quit_ends_it = refl;
  another_goes_on = refl;
  asks_without_words = (record { command = tt; words = tt }, λ wanted. absurd (cc (wanted)));
  no_words_that_are_wanted = λ takes. let never : false ≡ true = takes.1 refl in cc;
  nothing_deleted = λ takes. takes.0.command refl;
  a_request_that_is_there = λ takes. takes;
  no_end = λ takes. takes;
  waits_for_the_rest = (refl, (codes "*1", refl, request-open (codes "*1") refl));
  no_wait_for_a_whole_request = λ waits. (open-of None (wire (codes "*0^")) waits).0 (wire (codes "*0^")) [] [] refl spelled-none;
  no_wait_behind_a_fault = λ waits. (open-of None (codes "x") waits).1 Shape (request-fault (codes "x") Shape refl);
  no_wait_once_ended = λ waits. let never = waits.0 in cc;
}
