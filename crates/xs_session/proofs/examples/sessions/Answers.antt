use Rattle.std.specs.Prelude.{[], ◌∷◌, ◌++◌, codes}
use Rattle.std.proofs.Common.{refl, arith, inl, inr}
use Rattle.xs_resp.specs.declared.fault.Fault.TheVariants.{UnknownCommand, Memory, Protocol}
use Rattle.xs_resp.specs.declared.read_fault.ProtocolFault.TheVariants.{Shape}
use Rattle.xs_resp.specs.declared.reply.Reply.TheVariants.{Simple, Error, Int, Bulk}
use Rattle.xs_resp.specs.declared.reply.Simple.TheVariants.{Okay, Pong}
use Rattle.xs_resp.specs.Examples.{wire}
use Rattle.xs_resp.proofs.Computing as resp
use Rattle.xs_resp.proofs.Decisions.{request-fault}
use Rattle.xs_command.specs.declared.command.Command.TheVariants.{Quit}
use Rattle.xs_command.specs.Examples.{line}
use Rattle.xs_command.proofs.Computing.{example_functions}
use Rattle.xs_connection.specs.declared.transaction.Transaction.TheVariants.{Closed}
use Rattle.xs_session.specs.Answers.{Asks, Says}
use Rattle.xs_session.specs.Examples.{ping, len, add, anyone}
use Rattle.xs_session.specs.ExamplesSessions.{bytes_of_ping, bytes_of_len, bytes_of_get, bytes_of_quit, bytes_of_add}
use Rattle.xs_session.proofs.SpelledExamples.{spelled-ping, spelled-len, spelled-get, spelled-quit, spelled-add, spelled-none, spelled-null}
use Rattle.xs_session.proofs.examples.sessions.Goals as goal

pub returns : goal.returns
unfolding resp.example_functions example_functions
returns c = record {
  nothing = record { requests = []; front = []; rest = []; read_is = refl; spelled = refl; taken = []; first = anyone; is_first = refl; are_taken = (refl, refl); goes = (refl, refl); asked_is = refl; fits = omega arith; begun = []; answers = refl; sent_is = refl };
  asked = record { requests = line (codes "PING") ∷ []; front = bytes_of_ping; rest = []; read_is = refl; spelled = (_, _, refl, spelled-ping, refl); taken = Asks ping ∷ []; first = anyone; is_first = refl; are_taken = (_, [], _, _, Closed, refl, (refl, refl, refl, refl), refl, inr refl, (refl, refl)); goes = (refl, refl); asked_is = refl; fits = omega arith; begun = []; answers = refl; sent_is = refl };
  reply_came = record { requests = line (codes "PING") ∷ []; front = bytes_of_ping; rest = []; read_is = refl; spelled = (_, _, refl, spelled-ping, refl); taken = Asks ping ∷ []; first = anyone; is_first = refl; are_taken = (_, [], _, _, Closed, refl, (refl, refl, refl, refl), refl, inr refl, (refl, refl)); goes = (refl, refl); asked_is = refl; fits = omega arith; begun = []; answers = refl; sent_is = refl };
  answered = record { requests = line (codes "PING") ∷ []; front = bytes_of_ping; rest = []; read_is = refl; spelled = (_, _, refl, spelled-ping, refl); taken = Asks ping ∷ []; first = anyone; is_first = refl; are_taken = (_, [], _, _, Closed, refl, (refl, refl, refl, refl), refl, inr refl, (refl, refl)); goes = (refl, refl); asked_is = refl; fits = omega arith; begun = Simple Pong ∷ []; answers = refl; sent_is = refl };
  sent_in_part = record { requests = line (codes "PING") ∷ []; front = bytes_of_ping; rest = []; read_is = refl; spelled = (_, _, refl, spelled-ping, refl); taken = Asks ping ∷ []; first = anyone; is_first = refl; are_taken = (_, [], _, _, Closed, refl, (refl, refl, refl, refl), refl, inr refl, (refl, refl)); goes = (refl, refl); asked_is = refl; fits = omega arith; begun = Simple Pong ∷ []; answers = refl; sent_is = refl };
  part_of_a_request = record { requests = line (codes "PING") ∷ []; front = bytes_of_ping; rest = codes "*2"; read_is = refl; spelled = (_, _, refl, spelled-ping, refl); taken = Asks ping ∷ []; first = anyone; is_first = refl; are_taken = (_, [], _, _, Closed, refl, (refl, refl, refl, refl), refl, inr refl, (refl, refl)); goes = (refl, refl); asked_is = refl; fits = omega arith; begun = []; answers = refl; sent_is = refl };
  request_not_taken_yet = record { requests = []; front = []; rest = bytes_of_ping; read_is = refl; spelled = refl; taken = []; first = anyone; is_first = refl; are_taken = (refl, refl); goes = (refl, refl); asked_is = refl; fits = omega arith; begun = []; answers = refl; sent_is = refl };
  an_addition = record { requests = line (codes "XADD k 1-1 f v") ∷ []; front = bytes_of_add; rest = []; read_is = refl; spelled = (_, _, refl, spelled-add, refl); taken = Asks add ∷ []; first = anyone; is_first = refl; are_taken = (_, [], _, _, Closed, refl, (refl, refl, refl, refl), refl, inr refl, (refl, refl)); goes = (refl, refl); asked_is = refl; fits = omega arith; begun = Bulk (codes "1-1") ∷ []; answers = refl; sent_is = refl };
  an_unknown_command_between = record { requests = line (codes "PING") ∷ line (codes "GET k") ∷ line (codes "XLEN k") ∷ []; front = bytes_of_ping ++ (bytes_of_get ++ bytes_of_len); rest = []; read_is = refl; spelled = (_, _, refl, spelled-ping, (_, _, refl, spelled-get, (_, _, refl, spelled-len, refl))); taken = Asks ping ∷ Says (Error UnknownCommand) ∷ Asks len ∷ []; first = anyone; is_first = refl; are_taken = (_, [], _, _, Closed, refl, (refl, refl, refl, refl), refl, inr refl, (_, [], _, _, Closed, refl, inl (inl (UnknownCommand, refl, (refl, refl))), refl, inr refl, (_, [], _, _, Closed, refl, (refl, refl, refl, refl), refl, inr refl, (refl, refl)))); goes = (refl, refl); asked_is = refl; fits = omega arith; begun = Simple Pong ∷ Error UnknownCommand ∷ Int 2 ∷ []; answers = refl; sent_is = refl };
  an_unknown_command_behind_an_open_reply = record { requests = line (codes "PING") ∷ line (codes "GET k") ∷ line (codes "XLEN k") ∷ []; front = bytes_of_ping ++ (bytes_of_get ++ bytes_of_len); rest = []; read_is = refl; spelled = (_, _, refl, spelled-ping, (_, _, refl, spelled-get, (_, _, refl, spelled-len, refl))); taken = Asks ping ∷ Says (Error UnknownCommand) ∷ Asks len ∷ []; first = anyone; is_first = refl; are_taken = (_, [], _, _, Closed, refl, (refl, refl, refl, refl), refl, inr refl, (_, [], _, _, Closed, refl, inl (inl (UnknownCommand, refl, (refl, refl))), refl, inr refl, (_, [], _, _, Closed, refl, (refl, refl, refl, refl), refl, inr refl, (refl, refl)))); goes = (refl, refl); asked_is = refl; fits = omega arith; begun = []; answers = refl; sent_is = refl };
  no_words = record { requests = [] ∷ [] ∷ []; front = wire (codes "*0^*-1^"); rest = []; read_is = refl; spelled = (_, _, refl, spelled-none, (_, _, refl, spelled-null, refl)); taken = []; first = anyone; is_first = refl; are_taken = (refl, refl); goes = (refl, refl); asked_is = refl; fits = omega arith; begun = []; answers = refl; sent_is = refl };
  no_memory = record { requests = line (codes "PING") ∷ []; front = bytes_of_ping; rest = []; read_is = refl; spelled = (_, _, refl, spelled-ping, refl); taken = Says (Error Memory) ∷ []; first = anyone; is_first = refl; are_taken = (_, [], _, _, Closed, refl, inr (refl, refl), refl, inr refl, (refl, refl)); goes = (refl, refl); asked_is = refl; fits = omega arith; begun = Error Memory ∷ []; answers = refl; sent_is = refl };
  a_quit = record { requests = line (codes "QUIT") ∷ []; front = bytes_of_quit; rest = bytes_of_ping; read_is = refl; spelled = (_, _, refl, spelled-quit, refl); taken = Asks Quit ∷ []; first = anyone; is_first = refl; are_taken = (_, [], _, _, Closed, refl, (refl, refl, refl, refl), refl, inr refl, (refl, refl)); goes = (refl, ([], refl, refl)); asked_is = refl; fits = omega arith; begun = Simple Okay ∷ []; answers = refl; sent_is = refl };
  a_protocol_error = record { requests = line (codes "PING") ∷ []; front = bytes_of_ping; rest = codes "x"; read_is = refl; spelled = (_, _, refl, spelled-ping, refl); taken = Asks ping ∷ []; first = anyone; is_first = refl; are_taken = (_, [], _, _, Closed, refl, (refl, refl, refl, refl), refl, inr refl, (refl, refl)); goes = (refl, (Shape, request-fault (codes "x") Shape refl, refl)); asked_is = refl; fits = omega arith; begun = Simple Pong ∷ Error Protocol ∷ []; answers = refl; sent_is = refl };
}
