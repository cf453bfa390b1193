-- Sessions, by examples: bytes that were read, commands that were asked, replies that came, and bytes that were sent.
-- The bytes are those of the RESP protocol specification (version 2). How a session ends, that requests may be asked
-- before the replies to others have come, and OOM are this server's own rules (docs/COMMANDS.md).
use Rattle.std.specs.Prelude.{ℕ, List, [], ◌∷◌, ◌++◌, codes, Option, Some, None, Ok, Err}
use Rattle.xs_resp.specs.declared.fault.Fault.TheVariants.{UnknownCommand}
use Rattle.xs_resp.specs.declared.read_fault.ProtocolFault.TheVariants.{Shape}
use Rattle.xs_resp.specs.declared.reply.Reply.{Reply}
use Rattle.xs_resp.specs.declared.reply.Reply.TheVariants.{Simple, Error, Int, Bulk}
use Rattle.xs_resp.specs.declared.reply.Simple.TheVariants.{Okay, Pong}
use Rattle.xs_resp.specs.HeldBytes.{Held}
use Rattle.xs_resp.specs.Examples.{wire}
use Rattle.xs_command.specs.declared.command.Command.{Command}
use Rattle.xs_command.specs.declared.command.Command.TheVariants as command
use Rattle.xs_session.specs.declared.ending.Ending.{Ending}
use Rattle.xs_session.specs.declared.ending.Ending.TheVariants as ending
use Rattle.xs_session.specs.Session.{IsAfter}
use Rattle.xs_session.specs.declared.places.Place.{Place}
use Rattle.xs_session.specs.declared.places.Place.TheVariants.{Answer, Awaits}
use Rattle.xs_session.specs.declared.manner.Manner.TheVariants.{Plain}
use Rattle.xs_session.specs.Examples.{ping, len, add, anyone}

abbrev pub bytes_of_ping : List ℕ
bytes_of_ping = wire (codes "*1^$4^PING^")

abbrev pub bytes_of_len : List ℕ
bytes_of_len = wire (codes "*2^$4^XLEN^$1^k^")

abbrev pub bytes_of_quit : List ℕ
bytes_of_quit = wire (codes "*1^$4^QUIT^")

-- XADD k 1-1 f v
abbrev pub bytes_of_add : List ℕ
bytes_of_add = wire (codes "*5^$4^XADD^$1^k^$3^1-1^$1^f^$1^v^")

-- a request with an unknown command
abbrev pub bytes_of_get : List ℕ
bytes_of_get = wire (codes "*2^$3^GET^$1^k^")

-- the same if only commands of the keyspace are known
abbrev pub IsPlainAfter :
    List ℕ → List Command → List Reply → List ℕ → Option Ending → Held → List Place → List ℕ → Type 0
IsPlainAfter read asked got sent ended held places owed =
    IsAfter Plain anyone read asked got sent ended held places owed

pub record Sessions : Type 0 where
  pub nothing : IsPlainAfter [] [] [] [] None (Ok []) [] []
  pub asked : IsPlainAfter bytes_of_ping (ping ∷ []) [] [] None (Ok []) (Awaits ∷ []) []
  pub reply_came : IsPlainAfter bytes_of_ping (ping ∷ []) (Simple Pong ∷ []) [] None (Ok []) (Answer (Simple Pong) ∷ []) []
  pub answered :
      IsPlainAfter bytes_of_ping (ping ∷ []) (Simple Pong ∷ []) (wire (codes "+PONG^")) None (Ok []) [] []
  pub sent_in_part :
      IsPlainAfter bytes_of_ping (ping ∷ []) (Simple Pong ∷ []) (codes "+PO") None (Ok []) [] (wire (codes "NG^"))
  pub part_of_a_request :
      IsPlainAfter (bytes_of_ping ++ codes "*2") (ping ∷ []) [] [] None (Ok (codes "*2")) (Awaits ∷ []) []
  pub request_not_taken_yet : IsPlainAfter bytes_of_ping [] [] [] None (Ok bytes_of_ping) [] []
  pub an_addition :
      IsPlainAfter bytes_of_add (add ∷ []) (Bulk (codes "1-1") ∷ [])
      (wire (codes "$3^1-1^")) None (Ok []) [] []
  pub an_unknown_command_between :
      IsPlainAfter (bytes_of_ping ++ (bytes_of_get ++ bytes_of_len)) (ping ∷ len ∷ []) (Simple Pong ∷ Int 2 ∷ [])
      (wire (codes "+PONG^-ERR unknown command^:2^")) None (Ok []) [] []
  pub an_unknown_command_behind_an_open_reply :
      IsPlainAfter (bytes_of_ping ++ (bytes_of_get ++ bytes_of_len)) (ping ∷ len ∷ []) [] [] None (Ok [])
      (Awaits ∷ Answer (Error UnknownCommand) ∷ Awaits ∷ []) []
  pub no_words : IsPlainAfter (wire (codes "*0^*-1^")) [] [] [] None (Ok []) [] []
  pub no_memory : IsPlainAfter bytes_of_ping [] [] (wire (codes "-OOM out of memory^")) None (Ok []) [] []
  pub a_quit :
      IsPlainAfter (bytes_of_quit ++ bytes_of_ping) (command.Quit ∷ []) (Simple Okay ∷ []) (wire (codes "+OK^"))
      (Some ending.Quit) (Ok bytes_of_ping) [] []
  pub a_protocol_error :
      IsPlainAfter (bytes_of_ping ++ codes "x") (ping ∷ []) (Simple Pong ∷ []) (wire (codes "+PONG^-ERR Protocol error^"))
      (Some ending.Protocol) (Err Shape) [] []

-- these bytes can't have been sent, whatever the places and the unsent bytes are
abbrev pub IsNeverSent : List ℕ → List Command → List Reply → List ℕ → Option Ending → Held → Type 0
IsNeverSent read asked got sent ended held =
    (places : List Place) (owed : List ℕ) → IsPlainAfter read asked got sent ended held places owed → ⊥

-- these commands can't have been asked, whatever else has happened
abbrev pub IsNeverAsked : List ℕ → List Command → Option Ending → Held → Type 0
IsNeverAsked read asked ended held =
    (got : List Reply) (sent : List ℕ) (places : List Place) (owed : List ℕ) →
    IsPlainAfter read asked got sent ended held places owed → ⊥

pub record NoSessions : Type 0 where
  pub error_before_an_open_reply :
      IsNeverSent (bytes_of_ping ++ bytes_of_get) (ping ∷ []) [] (wire (codes "-ERR unknown command^")) None (Ok [])
  pub protocol_error_before_an_open_reply :
      IsNeverSent (bytes_of_ping ++ codes "x") (ping ∷ []) [] (wire (codes "-ERR Protocol error^"))
      (Some ending.Protocol) (Err Shape)
  pub replies_in_another_order :
      IsNeverSent (bytes_of_ping ++ bytes_of_len) (ping ∷ len ∷ []) (Simple Pong ∷ Int 2 ∷ [])
      (wire (codes ":2^+PONG^")) None (Ok [])
  pub an_answer_left_out :
      IsNeverSent (bytes_of_ping ++ bytes_of_len) (len ∷ []) (Int 2 ∷ []) (wire (codes ":2^")) None (Ok [])
  pub an_answer_invented : IsNeverSent bytes_of_ping [] [] (wire (codes "+PONG^")) None (Ok [])
  pub an_answer_to_no_words : IsNeverSent (wire (codes "*0^")) [] [] (wire (codes "-OOM out of memory^")) None (Ok [])
  pub a_reply_to_nothing :
      (places : List Place) → IsPlainAfter [] [] (Simple Pong ∷ []) [] None (Ok []) places [] → ⊥
  pub asked_twice : IsNeverAsked bytes_of_ping (ping ∷ ping ∷ []) None (Ok [])
  pub asked_behind_a_quit :
      (ended : Option Ending) (held : Held) →
      IsNeverAsked (bytes_of_quit ++ bytes_of_ping) (command.Quit ∷ ping ∷ []) ended held
  pub part_of_a_request_asked :
      (held : Held) → IsNeverAsked (wire (codes "*1^$4^PIN")) (ping ∷ []) None held
  pub a_quit_that_ends_nothing : IsNeverAsked bytes_of_quit (command.Quit ∷ []) None (Ok [])
  pub a_protocol_error_of_no_fault : IsNeverAsked bytes_of_ping (ping ∷ []) (Some ending.Protocol) (Err Shape)
