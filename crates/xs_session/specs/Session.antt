-- A session by its four lists: the bytes read, the commands asked, the replies got, the bytes sent.
use Rattle.std.specs.Prelude.{◌≡◌, ◌⊎◌, ℕ, ◌≤◌, Bool, true, false, is_some, List, [], ◌∷◌, ◌++◌, length, drop, map}
use Rattle.std.specs.Prelude.{Option, Some, None, Ok, Err}
use Rattle.std.specs.List.{flat_map}
use Rattle.xs_resp.specs.declared.fault.Fault.TheVariants.{Protocol}
use Rattle.xs_resp.specs.declared.reply.Reply.{Reply}
use Rattle.xs_resp.specs.declared.reply.Reply.TheVariants.{Error}
use Rattle.xs_resp.specs.declared.read_fault.ProtocolFault.{ProtocolFault}
use Rattle.xs_resp.specs.ReplyText.{text}
use Rattle.xs_resp.specs.Grammar.{SpellsAll, FaultIn, IsOpen}
use Rattle.xs_resp.specs.HeldBytes.{Held, Skips}
use Rattle.xs_resp.specs.LeftToWrite.{bytes_left}
use Rattle.xs_command.specs.declared.command.Command.{Command}
use Rattle.xs_command.specs.declared.command.Command.TheVariants.{Quit}
use Rattle.xs_desk.specs.declared.answer.Call.{Call}
use Rattle.xs_desk.specs.Calls.{IsFormed}
use Rattle.xs_connection.specs.declared.standing.Standing.{Standing}
use Rattle.xs_command.specs.Read.{command_of_words}
use Rattle.xs_connection.specs.Standing.{as_new}
use Rattle.xs_connection.specs.Transaction.{released}
use Rattle.xs_connection.specs.declared.transaction.Transaction.TheVariants.{Closed, Released}
use Rattle.xs_session.specs.declared.manner.Manner.{Manner}
use Rattle.xs_session.specs.declared.manner.Manner.TheVariants.{Plain, Full}
use Rattle.xs_session.specs.declared.ending.Ending.{Ending}
use Rattle.xs_session.specs.declared.ending.Ending.TheVariants as ending
use Rattle.xs_session.specs.declared.session.Session.{Session}
use Rattle.xs_session.specs.declared.session.Next.{Next}
use Rattle.xs_session.specs.declared.session.Next.TheVariants as next
use Rattle.xs_session.specs.Strangers.{is_too_much}
use Rattle.xs_session.specs.Places.{is_open}
use Rattle.xs_session.specs.declared.places.Place.{Place}
use Rattle.xs_session.specs.declared.places.Place.TheVariants.{Answer, Awaits}
use Rattle.xs_session.specs.Answers.{is_stranger, Taken, Asks, Says, AreTaken, MayBeOpen, is_alone, asked_of, answers_to, has_quit}

-- the texts of replies
abbrev pub texts : List Reply → List ℕ
texts replies = flat_map text replies

-- the place of the protocol error is after the requests
abbrev pub refusal : Option Ending → List Taken
refusal (Some ending.Protocol) = Says (Error Protocol) ∷ []
refusal _ = []

-- why a protocol error ends a session: the bytes that are left have a fault; or a client that hasn't given the password
-- has sent more than it may
abbrev pub IsFault : List ℕ → Held → Type 0
IsFault rest held = (wrong : ProtocolFault) × FaultIn rest wrong × (held ≡ Err wrong)

abbrev pub IsWrong : Manner → Standing → List ℕ → Held → Type 0
IsWrong Plain standing rest held = IsFault rest held
IsWrong (Full wanted) standing rest held =
    IsFault rest held ⊎ ((held ≡ Ok rest) × (standing.is_allowed ≡ false) × (is_too_much held ≡ true))

-- whether further requests are taken from the rest of what was read, which is held: none after a QUIT, which is the
-- last request, and none from a fault on
abbrev pub Goes : Manner → Standing → Option Ending → List Taken → List ℕ → Held → Type 0
Goes manner standing None taken rest held = (held ≡ Ok rest) × (has_quit taken ≡ false)
Goes manner standing (Some ending.Quit) taken rest held =
    (held ≡ Ok rest) × ((before : List Taken) × (taken ≡ before ++ Asks Quit ∷ []) × (has_quit before ≡ false))
Goes manner standing (Some ending.Protocol) taken rest held =
    (has_quit taken ≡ false) × IsWrong manner standing rest held
Goes manner standing _ taken rest held = ⊥

-- a new connection, which may send commands if no password is required
abbrev pub IsFirst : Manner → Standing → Type 0
IsFirst Plain standing = standing.transaction ≡ Closed
IsFirst (Full wanted) standing = standing ≡ as_new wanted standing

-- What was read begins with requests, each of which is taken; `asked` is their commands, in their order. Of the
-- answers, in the order of the requests, the first ones are begun, as far as all are there: their texts are the sent
-- bytes and then the unsent ones. The others have places, some of which wait for their reply.
pub record IsAfter
    (manner : Manner) (standing : Standing) (read : List ℕ) (asked : List Command) (got : List Reply) (sent : List ℕ)
    (ended : Option Ending) (held : Held) (places : List Place) (owed : List ℕ) : Type 0 where
  pub requests : List (List (List ℕ))
  pub front : List ℕ
  pub rest : List ℕ
  pub read_is : read ≡ front ++ rest
  pub spelled : SpellsAll front requests
  pub taken : List Taken
  pub first : Standing
  pub is_first : IsFirst manner first
  pub are_taken : AreTaken manner first requests taken standing
  pub goes : Goes manner standing ended taken rest held
  pub asked_is : asked ≡ asked_of taken
  pub fits : length got ≤ length asked
  pub begun : List Reply
  pub answers : answers_to (taken ++ refusal ended) got ≡ map Answer begun ++ places
  pub sent_is : texts begun ≡ sent ++ owed

-- so is a session; and a command that is asked alone is open alone
abbrev pub SessionIsAfter : Manner → List ℕ → List Command → List Reply → List ℕ → Session → Type 0
SessionIsAfter manner read asked got sent session =
    IsAfter manner session.standing read asked got sent session.ended session.requests session.places
    (bytes_left session.owed)
    × MayBeOpen session.alone (drop (length got) asked)

-- every answer is begun, and all unsent bytes are gathered
abbrev pub IsGathered : Session → Type 0
IsGathered session = (session.places ≡ []) × (session.owed.behind ≡ [])

-- a QUIT ends it
abbrev pub ending_of : Command → Option Ending
ending_of Quit = Some ending.Quit
ending_of _ = None

-- nothing is read yet
pub record IsNew (manner : Manner) (session : Session) : Type 0 where
  pub ended : session.ended ≡ None
  pub requests : session.requests ≡ Ok []
  pub places : session.places ≡ []
  pub owed : bytes_left session.owed ≡ []
  pub alone : session.alone ≡ false
  pub first : IsFirst manner session.standing

-- the command that a step asks
abbrev pub asked_in : Next → List Command
asked_in (next.Asks call) = call.command ∷ []
asked_in _ = []

-- the request at the front is taken, its command is asked, and the answer is waited for at this place; a command is
-- asked alone only once every answer is gathered
pub record AsksFront (old : Session) (command : Command) (place : Place) (new : Session) : Type 0 where
  pub skips : Skips old.requests new.requests
  pub places : new.places ≡ old.places ++ place ∷ []
  pub ended : new.ended ≡ ending_of command
  pub alone : new.alone ≡ is_alone command
  pub gathered : is_alone command ≡ true → IsGathered old
  pub standing : new.standing ≡ old.standing

-- the next command that EXEC has released was asked; alone only once every answer is gathered
pub record AsksReleased (old : Session) (command : Command) (result : Next) (new : Session) : Type 0 where
  pub call : Call
  pub asks : result ≡ next.Asks call
  pub call_is : call.command ≡ command
  pub words : List (List ℕ)
  pub others : List (List (List ℕ))
  pub released_is : old.standing.transaction ≡ Released (words ∷ others)
  pub said : command_of_words words ≡ Ok command
  pub places : new.places ≡ old.places ++ Awaits ∷ []
  pub held : new.requests ≡ old.requests
  pub ended : new.ended ≡ ending_of command
  pub alone : new.alone ≡ is_alone command
  pub gathered : is_alone command ≡ true → IsGathered old
  pub standing : new.standing ≡ record old.standing { transaction = released others }

-- it is, or it is to be asked alone and has to wait
abbrev pub AsksOrWaits : Session → Command → Place → Bool → Session → Type 0
AsksOrWaits old command place true new = AsksFront old command place new
AsksOrWaits old command place false new = new ≡ record old { alone = true }

-- the next one of EXEC was asked, or it is to be asked alone and has to wait
abbrev pub ReleasesOrWaits : Session → Command → Next → Session → Type 0
ReleasesOrWaits old command result new =
    AsksReleased old command result new ⊎ ((result ≡ next.Full) × (new ≡ record old { alone = true }))

-- a request was taken, or has to wait; what is asked is well formed, and has its words if they are needed
abbrev pub Takes : Bool → Next → Type 0
Takes wants_words next.Goes = Unit {0}
Takes wants_words next.Full = Unit {0}
Takes wants_words (next.Asks call) = IsFormed call × (wants_words ≡ true → is_some call.words ≡ true)
Takes wants_words _ = ⊥

-- a step takes at most one place: of a call that is asked, whose answer is waited for; else of an answer, which is
-- there
abbrev pub TakesPlace : Next → List Place → List Place → Type 0
TakesPlace (next.Asks call) old new = (place : Place) × (is_open place ≡ true) × (new ≡ old ++ place ∷ [])
TakesPlace _ old new = (new ≡ old) ⊎ ((reply : Reply) × (new ≡ old ++ Answer reply ∷ []))

-- what was taken, or isn't complete yet, is no more than a client may send before it has given the password
abbrev pub IsHeard : Manner → Standing → Held → Next → Type 0
IsHeard manner standing held next.Goes = is_stranger manner standing ≡ true → is_too_much held ≡ false
IsHeard manner standing held next.Waits = is_stranger manner standing ≡ true → is_too_much held ≡ false
IsHeard manner standing held _ = Unit {0}

-- it waits for bytes: no complete request is held, and no fault
abbrev pub Waits : Option Ending → Held → Type 0
Waits ended held = (ended ≡ None) × ((bytes : List ℕ) × (held ≡ Ok bytes) × IsOpen bytes)
