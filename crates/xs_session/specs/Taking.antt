-- How the session takes a request.
use Rattle.std.specs.Prelude.{◌≡◌, ℕ, Bool, true, List, Err, is_some}
use Rattle.xs_resp.specs.declared.fault.Fault.TheVariants.{UnknownCommand}
use Rattle.xs_command.specs.Read.{command_of_words}
use Rattle.xs_connection.specs.declared.standing.Standing.{Standing}
use Rattle.xs_desk.specs.Calls.{IsFormed}
use Rattle.xs_session.specs.declared.manner.Manner.{Manner}
use Rattle.xs_session.specs.declared.manner.Manner.TheVariants.{Plain, Full}
use Rattle.xs_session.specs.declared.taking.Taking.{Taking}
use Rattle.xs_session.specs.declared.taking.Taking.TheVariants as taking
use Rattle.xs_session.specs.Answers.{Asks, Says, IsTaken, may_ask}

-- words that may be a command of the connection, which may be answered
abbrev pub IsUnknown : Manner → Standing → List (List ℕ) → Type 0
IsUnknown Plain standing words = ⊥
IsUnknown (Full wanted) standing words =
    (may_ask (Full wanted) standing words ≡ true) × (command_of_words words ≡ Err UnknownCommand)

-- the request was taken; or it is INFO, and wasn't
abbrev pub IsTakingOf : Manner → Standing → List (List ℕ) → Taking → Standing → Type 0
IsTakingOf manner old words (taking.Asks call) new = IsTaken manner old words (Asks call.command) new
IsTakingOf manner old words (taking.Says reply) new = IsTaken manner old words (Says reply) new
IsTakingOf manner old words taking.Info new = IsUnknown manner old words × (new ≡ old)

-- what is asked is well formed
abbrev pub IsFormedTaking : Taking → Type 0
IsFormedTaking (taking.Asks call) = IsFormed call
IsFormedTaking _ = Unit {0}

-- and has its words if they are needed
abbrev pub HasWantedWords : Bool → Taking → Type 0
HasWantedWords wants_words (taking.Asks call) = wants_words ≡ true → is_some call.words ≡ true
HasWantedWords wants_words _ = Unit {0}
