-- A connection whose requests are asked through a lane, several at once.
use Rattle.std.specs.Prelude.{◌≡◌, ◌≢◌, ℕ, ◌<◌, ◌≤◌, Bool, true, false, List, [], ◌++◌, length, map}
use Rattle.std.specs.Prelude.{Option, Some, None, Result, Ok, Err}
use Rattle.xs_resp.specs.declared.reply.Reply.{Reply}
use Rattle.xs_resp.specs.Grammar.{IsOpen}
use Rattle.xs_io.specs.DeviceState.{ReaderState, WriterState, HasReachedEnd}
use Rattle.xs_resp.specs.HeldBytes.{Held}
use Rattle.xs_resp.specs.LeftToWrite.{bytes_left}
use Rattle.xs_command.specs.declared.command.Command.{Command}
use Rattle.xs_desk.specs.declared.answer.Answer.{Answer}
use Rattle.xs_desk.specs.Callers.{Caller}
use Rattle.xs_connection.specs.declared.standing.Standing.{Standing}
use Rattle.xs_session.specs.declared.manner.Manner.{Manner}
use Rattle.xs_session.specs.declared.ending.Ending.{Ending}
use Rattle.xs_session.specs.declared.ending.Ending.TheVariants as ending
use Rattle.xs_session.specs.declared.session.Session.{Session}
use Rattle.xs_session.specs.declared.places.Place.{Place}
use Rattle.xs_session.specs.Places.{has_open}
use Rattle.xs_session.specs.Session.{IsAfter, SessionIsAfter, Waits}
use Rattle.xs_work.specs.declared.ahead.AheadFault.{AheadFault}
use Rattle.xs_work.specs.declared.ahead.AheadFault.TheVariants as fault

-- since the first state of the client these commands were submitted through the lane, in this order, and its answers
-- that were taken have these replies, in this order
pub record Calls (first now : Caller) (put : List Command) (got : List Reply) : Type 0 where
  pub answers : List Answer
  pub got_is : got ≡ map (λ a. a.reply) answers
  pub client_is : now ≡ record first { submitted = first.submitted ++ put; taken = first.taken ++ answers }

-- a session and its lane: what was asked, and what of it was submitted
pub record IsAheadAfter
    (first now : Caller) (manner : Manner) (read : List ℕ) (asked put : List Command) (sent : List ℕ)
    (session : Session) : Type 0 where
  pub got : List Reply
  pub after : SessionIsAfter manner read asked got sent session
  pub calls : Calls first now put got

-- a text without some bytes at its end
abbrev pub IsPart : List ℕ → List ℕ → Type 0
IsPart part whole = (more : List ℕ) × (whole ≡ part ++ more) × (0 < length more)

-- after the bytes that were sent before, these were sent, and some unsent bytes are left
pub record BreaksOff
    (manner : Manner) (read : List ℕ) (asked : List Command) (got : List Reply) (sent more : List ℕ) (session : Session)
    : Type 0 where
  pub before : List ℕ
  pub part : List ℕ
  pub rest : List ℕ
  pub more_is : more ≡ before ++ part
  pub after : SessionIsAfter manner read asked got (sent ++ before) session
  pub unsent_is : bytes_left session.owed ≡ part ++ rest
  pub some : 0 < length rest

-- nothing is waited for or unsent
abbrev pub IsDone : List Place → List ℕ → Type 0
IsDone places owed = (places ≡ []) × (owed ≡ [])

-- How a connection ends. If the writer fails, some bytes are unsent, and at most 32 answers weren't begun.
abbrev pub AheadEnds : Result Ending AheadFault → Option Ending → Held → List Place → List ℕ → Type 0
AheadEnds (Ok ending.Closed) ended held places owed = (ended ≡ None) × (held ≡ Ok []) × IsDone places owed
AheadEnds (Ok ending.Cut) ended held places owed =
    (ended ≡ None) × ((bytes : List ℕ) × (held ≡ Ok bytes) × (bytes ≢ []) × IsOpen bytes) × IsDone places owed
AheadEnds (Ok end) ended held places owed = (ended ≡ Some end) × IsDone places owed
AheadEnds (Err fault.Read) ended held places owed = Waits ended held × IsDone places owed
AheadEnds (Err fault.Memory) ended held places owed = Waits ended held × IsDone places owed
AheadEnds (Err fault.Write) ended held places owed =
    (has_open places ≡ false) × (0 < length owed) × (length places ≤ 32)
AheadEnds (Err fault.Port) ended held places owed = Unit {0}

-- what is known, from its reader and its writer, of how a connection ended
abbrev pub HasCauseOf : Result Ending AheadFault → ReaderState → WriterState → Type 0
HasCauseOf (Ok ending.Closed) input output = HasReachedEnd input
HasCauseOf (Ok ending.Cut) input output = HasReachedEnd input
HasCauseOf (Err fault.Read) input output = input.broken ≡ true
HasCauseOf (Err fault.Write) input output = output.broken ≡ true
HasCauseOf _ input output = Unit {0}

-- the writer failed, or the keeper is gone
abbrev pub IsLost : AheadFault → Bool → Type 0
IsLost fault.Write unwritten = unwritten ≡ true
IsLost fault.Port unwritten = Unit {0}
IsLost _ unwritten = ⊥

-- a connection ends by this fault
pub record AheadFails
    (wrong : AheadFault) (first now : Caller) (manner : Manner) (read : List ℕ) (asked put : List Command)
    (sent : List ℕ) : Type 0 where
  pub got : List Reply
  pub standing : Standing
  pub ended : Option Ending
  pub held : Held
  pub places : List Place
  pub owed : List ℕ
  pub after : IsAfter manner standing read asked got sent ended held places owed
  pub calls : Calls first now put got
  pub ends : AheadEnds (Err wrong) ended held places owed
  pub closed : wrong ≢ fault.Port → has_open places ≡ false

-- A complete connection: what its requests ask was submitted through the lane, in order, each once and nothing else;
-- the replies are those of the answers that were taken meanwhile, in order; and what was sent is their texts, with the
-- errors in their places. Unless the keeper is gone, as many answers were taken as commands were asked.
pub record ServesAhead
    (result : Result Ending AheadFault) (first now : Caller) (manner : Manner) (read sent : List ℕ) : Type 0 where
  pub asked : List Command
  pub put : List Command
  pub got : List Reply
  pub standing : Standing
  pub ended : Option Ending
  pub held : Held
  pub places : List Place
  pub owed : List ℕ
  pub after : IsAfter manner standing read asked got sent ended held places owed
  pub calls : Calls first now put got
  pub all : result ≢ Err fault.Port → (put ≡ asked) × (length got ≡ length asked)
  pub last : (unasked : List Command) × (asked ≡ put ++ unasked) × (length unasked < 2)
  pub ends : AheadEnds result ended held places owed
