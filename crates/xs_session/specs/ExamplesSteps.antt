-- What a step of a session may do, by examples: the rules are this server's own.
use Rattle.std.specs.Prelude.{◌≡◌, true, false, [], ◌∷◌, codes, Some, None, Ok}
use Rattle.xs_resp.specs.Examples.{wire}
use Rattle.xs_command.specs.declared.command.Command.{Command}
use Rattle.xs_command.specs.declared.command.Command.TheVariants as command
use Rattle.xs_desk.specs.declared.answer.Call.{Call}
use Rattle.xs_session.specs.declared.ending.Ending.TheVariants as ending
use Rattle.xs_session.specs.declared.manner.Manner.{Manner}
use Rattle.xs_session.specs.declared.places.Place.{Place}
use Rattle.xs_session.specs.declared.places.Place.TheVariants.{Awaits}
use Rattle.xs_session.specs.declared.session.Session.{Session}
use Rattle.xs_session.specs.declared.session.Next.{Next}
use Rattle.xs_session.specs.declared.session.Next.TheVariants as next
use Rattle.xs_session.specs.Session.{SessionIsAfter, IsGathered, IsNew, AsksFront, ending_of, asked_in, Takes, Waits}
use Rattle.xs_session.specs.Examples.{ping, scan}

-- a call without its words
abbrev pub call_of : Command → Call
call_of command = record { command = command; words = None }

pub record Steps : Type 0 where
  pub nothing_asked : asked_in next.Full ≡ []
  pub a_command_asked : asked_in (next.Asks (call_of ping)) ≡ ping ∷ []
  pub a_quit_ends_it : ending_of command.Quit ≡ Some ending.Quit
  pub another_goes_on : ending_of ping ≡ None
  pub asks_without_words : Takes false (next.Asks (call_of ping))
  pub no_words_that_are_wanted : Takes true (next.Asks (call_of ping)) → ⊥
  pub nothing_deleted : Takes false (next.Asks (call_of (command.Delete (codes "k") []))) → ⊥
  pub a_request_that_is_there : Takes false next.Waits → ⊥
  pub no_end : Takes false (next.Ends ending.Closed) → ⊥
  pub waits_for_the_rest : Waits None (Ok (codes "*1"))
  pub no_wait_for_a_whole_request : Waits None (Ok (wire (codes "*0^"))) → ⊥
  pub no_wait_behind_a_fault : Waits None (Ok (codes "x")) → ⊥
  pub no_wait_once_ended : Waits (Some ending.Quit) (Ok []) → ⊥

-- for all sessions
pub record StepsOfSessions : Type 0 where
  pub begins_with_nothing :
      (manner : Manner) (session : Session) → IsNew manner session → SessionIsAfter manner [] [] [] [] session
  pub an_open_reply_is_not_gathered : (session : Session) → session.places ≡ Awaits ∷ [] → IsGathered session → ⊥
  pub a_read_beside_others :
      (old new : Session) (place : Place) → old.places ≡ Awaits ∷ [] → AsksFront old scan place new → ⊥
