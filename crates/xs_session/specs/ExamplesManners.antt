-- How requests are taken if the session answers the commands of a connection itself, by examples: as a real Redis 7.0
-- answers them.
use Rattle.std.specs.Prelude.{ℕ, Bool, true, false, List, [], ◌∷◌, codes, Option, Some, None}
use Rattle.xs_resp.specs.declared.fault.Fault.TheVariants.{UnknownCommand, Arity, Memory}
use Rattle.xs_resp.specs.declared.reply.Reply.TheVariants.{Simple, Error, ErrorText, Opening}
use Rattle.xs_resp.specs.declared.reply.Simple.TheVariants.{Okay, Queued}
use Rattle.xs_command.specs.declared.command.Command.TheVariants as command
use Rattle.xs_command.specs.Examples.{line}
use Rattle.xs_connection.specs.declared.standing.Standing.{Standing}
use Rattle.xs_connection.specs.declared.transaction.Transaction.{Transaction}
use Rattle.xs_connection.specs.declared.transaction.Transaction.TheVariants.{Closed, Open, Released}
use Rattle.xs_session.specs.declared.manner.Manner.TheVariants.{Plain, Full}
use Rattle.xs_session.specs.Answers.{Taken, Asks, Says, IsTaken, AreRun, AreTaken}
use Rattle.xs_session.specs.Examples.{ping, len, add, anyone}

-- the password `secret` is required, or none
abbrev pub secret : Option (List ℕ)
secret = Some (codes "secret")

-- a connection that hasn't given the password, or has
abbrev pub who : Bool → Standing
who is_allowed = record { id = 1; name = []; is_allowed = is_allowed; transaction = Closed }

-- how a line of words is taken, and whether the connection may send commands then
abbrev pub Becomes : Option (List ℕ) → Bool → List ℕ → Taken → Bool → Type 0
Becomes wanted before text taken after = IsTaken (Full wanted) (who before) (line text) taken (who after)

abbrev pub no_auth : Taken
no_auth = Says (ErrorText (codes "NOAUTH Authentication required."))

-- without a password
pub record Free : Type 0 where
  pub a_command : Becomes None true (codes "PING") (Asks ping) true
  pub an_unknown_command :
      Becomes None true (codes "GET k")
      (Says (ErrorText (codes "ERR unknown command 'GET', with args beginning with: 'k' "))) true
  pub no_unknown_command_without_its_name : Becomes None true (codes "GET k") (Says (Error UnknownCommand)) true → ⊥
  pub another_fault : Becomes None true (codes "XLEN") (Says (Error Arity)) true
  pub a_command_of_the_connection : Becomes None true (codes "SELECT 0") (Says (Simple Okay)) true
  pub plainly_unknown : IsTaken Plain anyone (line (codes "SELECT 0")) (Says (Error UnknownCommand)) anyone
  pub not_plainly_answered : IsTaken Plain anyone (line (codes "SELECT 0")) (Says (Simple Okay)) anyone → ⊥
  pub no_memory : Becomes None true (codes "SELECT 0") (Says (Error Memory)) true

-- with one
pub record Guarded : Type 0 where
  pub nothing_is_asked : Becomes secret false (codes "PING") (Asks ping) false → ⊥
  pub no_addition_is_asked : Becomes secret false (codes "XADD k 1-1 f v") (Asks add) false → ⊥
  pub it_is_refused : Becomes secret false (codes "PING") no_auth false
  pub so_is_an_unknown_command : Becomes secret false (codes "SELECT 0") no_auth false
  pub the_password : Becomes secret false (codes "AUTH secret") (Says (Simple Okay)) true
  pub its_beginning : Becomes secret false (codes "AUTH secre") (Says (Simple Okay)) true → ⊥
  pub not_by_being_refused : Becomes secret false (codes "PING") no_auth true → ⊥
  pub a_quit : Becomes secret false (codes "QUIT") (Asks command.Quit) false
  pub asked_once_it_is_given : Becomes secret true (codes "PING") (Asks ping) true
  pub then_an_addition :
      AreTaken (Full secret) (who false) (line (codes "AUTH secret") ∷ line (codes "XADD k 1-1 f v") ∷ [])
      (Says (Simple Okay) ∷ Asks add ∷ []) (who true)

-- a connection that may send commands, with a transaction
abbrev pub at : Transaction → Standing
at transaction = record { id = 1; name = []; is_allowed = true; transaction = transaction }

abbrev pub waits : Taken
waits = Says (Simple Queued)

-- these lines are taken so, and nothing waits after them
abbrev pub AreFreely : List (List (List ℕ)) → List Taken → Type 0
AreFreely requests taken = AreTaken (Full None) (at Closed) requests taken (at Closed)

-- between MULTI and EXEC
pub record Transactions : Type 0 where
  pub a_command_waits :
      IsTaken (Full None) (at (Open [])) (line (codes "PING")) waits (at (Open (line (codes "PING") ∷ [])))
  pub it_is_not_asked : IsTaken (Full None) (at (Open [])) (line (codes "PING")) (Asks ping) (at (Open [])) → ⊥
  pub a_quit_is : IsTaken (Full None) (at (Open [])) (line (codes "QUIT")) (Asks command.Quit) (at (Open []))
  pub asked_by_exec :
      AreFreely (line (codes "MULTI") ∷ line (codes "PING") ∷ line (codes "XLEN k") ∷ line (codes "EXEC") ∷ [])
      (Says (Simple Okay) ∷ waits ∷ waits ∷ Says (Opening 2) ∷ Asks ping ∷ Asks len ∷ [])
  pub before_the_next_one :
      AreFreely (line (codes "MULTI") ∷ line (codes "PING") ∷ line (codes "EXEC") ∷ line (codes "XLEN k") ∷ [])
      (Says (Simple Okay) ∷ waits ∷ Says (Opening 1) ∷ Asks ping ∷ Asks len ∷ [])
  pub not_left_out : AreRun (Released (line (codes "PING") ∷ [])) [] Closed → ⊥
  pub no_other_one : AreRun (Released (line (codes "PING") ∷ [])) (Asks len ∷ []) Closed → ⊥
  pub none_behind_discard :
      AreFreely (line (codes "MULTI") ∷ line (codes "PING") ∷ line (codes "DISCARD") ∷ [])
      (Says (Simple Okay) ∷ waits ∷ Says (Simple Okay) ∷ [])
