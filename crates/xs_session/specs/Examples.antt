-- How requests are taken, by examples: their words are commands, or have a fault, by docs/COMMANDS.md; the texts are
-- those of the RESP protocol specification (version 2). That memory can run out for a request, and that some commands
-- are asked alone, are this server's own rules.
use Rattle.std.specs.Prelude.{◌≡◌, ℕ, Bool, true, false, List, [], ◌∷◌, codes, None, Result, Ok}
use Rattle.std.specs.Result.{result_map_both}
use Rattle.xs_stream.specs.declared.add.AddId.TheVariants.{Exact}
use Rattle.xs_stream.specs.Examples.{at}
use Rattle.xs_resp.specs.declared.fault.Fault.{Fault}
use Rattle.xs_resp.specs.declared.fault.Fault.TheVariants.{UnknownCommand, Arity, NotInteger, Memory}
use Rattle.xs_resp.specs.declared.reply.Reply.TheVariants.{Simple, Error, Int}
use Rattle.xs_resp.specs.declared.reply.Simple.TheVariants.{Pong}
use Rattle.xs_command.specs.declared.command.Command.{Command}
use Rattle.xs_command.specs.declared.command.Command.TheVariants as command
use Rattle.xs_command.specs.Read.{command_of_words}
use Rattle.xs_command.specs.Examples.{line}
use Rattle.xs_command.specs.ExamplesStreams.{adds, scans}
use Rattle.xs_connection.specs.declared.standing.Standing.{Standing}
use Rattle.xs_connection.specs.declared.transaction.Transaction.TheVariants.{Closed}
use Rattle.xs_session.specs.declared.manner.Manner.TheVariants.{Plain}
use Rattle.xs_session.specs.declared.places.Place.TheVariants.{Answer, Awaits}
use Rattle.xs_session.specs.Answers.{Taken, Asks, Says, IsTaken, AreTaken, asked_of, answers_to}
use Rattle.xs_session.specs.Answers.{is_alone, MayBeOpen, quits, has_quit}

abbrev pub ping : Command
ping = command.Ping None

abbrev pub len : Command
len = command.Len (codes "k")

-- XADD k 1-1 f v
abbrev pub add : Command
add = adds None (Exact (at 1 1))

-- a new connection
abbrev pub anyone : Standing
anyone = record { id = 1; name = []; is_allowed = true; transaction = Closed }

-- the same if only commands of the keyspace are known
abbrev pub IsSaidTo : List (List ℕ) → Taken → Type 0
IsSaidTo words taken = IsTaken Plain anyone words taken anyone

abbrev pub AreSaidTo : List (List (List ℕ)) → List Taken → Type 0
AreSaidTo requests taken = AreTaken Plain anyone requests taken anyone

-- how one request is taken
pub record Takings : Type 0 where
  pub a_command : IsSaidTo (line (codes "PING")) (Asks ping)
  pub an_addition : IsSaidTo (line (codes "XADD k 1-1 f v")) (Asks add)
  pub no_other_command : IsSaidTo (line (codes "PING")) (Asks command.Quit) → ⊥
  pub no_fault_of_a_command : IsSaidTo (line (codes "PING")) (Says (Error UnknownCommand)) → ⊥
  pub an_unknown_command : IsSaidTo (line (codes "GET k")) (Says (Error UnknownCommand))
  pub a_word_too_few : IsSaidTo (line (codes "XLEN")) (Says (Error Arity))
  pub no_number : IsSaidTo (line (codes "XTRIM k MAXLEN x")) (Says (Error NotInteger))
  pub no_other_fault : IsSaidTo (line (codes "GET k")) (Says (Error Arity)) → ⊥
  pub no_command_of_a_fault : IsSaidTo (line (codes "GET k")) (Asks ping) → ⊥
  pub no_memory_for_a_command : IsSaidTo (line (codes "XADD k 1-1 f v")) (Says (Error Memory))
  pub no_memory_to_find_a_fault : IsSaidTo (line (codes "GET k")) (Says (Error Memory))

-- how requests are taken, one after the other
pub record TakenInOrder : Type 0 where
  pub none : AreSaidTo [] []
  pub three :
      AreSaidTo (line (codes "PING") ∷ line (codes "GET k") ∷ line (codes "XLEN k") ∷ [])
      (Asks ping ∷ Says (Error UnknownCommand) ∷ Asks len ∷ [])
  pub no_words : AreSaidTo ([] ∷ line (codes "PING") ∷ [] ∷ []) (Asks ping ∷ [])
  pub one_without_memory :
      AreSaidTo (line (codes "PING") ∷ line (codes "XLEN k") ∷ []) (Says (Error Memory) ∷ Asks len ∷ [])
  pub nothing_from_nowhere : AreSaidTo [] (Asks ping ∷ []) → ⊥
  pub no_answer_to_no_words : AreSaidTo ([] ∷ []) (Says (Error Memory) ∷ []) → ⊥
  pub none_left_out : AreSaidTo (line (codes "PING") ∷ line (codes "XLEN k") ∷ []) (Asks len ∷ []) → ⊥
  pub none_twice : AreSaidTo (line (codes "PING") ∷ []) (Asks ping ∷ Asks ping ∷ []) → ⊥
  pub no_other_order :
      AreSaidTo (line (codes "PING") ∷ line (codes "XLEN k") ∷ []) (Asks len ∷ Asks ping ∷ []) → ⊥

-- what is asked, and the answers as the replies come
pub record Answering : Type 0 where
  pub nothing_asked : asked_of [] ≡ []
  pub asked : asked_of (Says (Error Memory) ∷ Asks ping ∷ Says (Error UnknownCommand) ∷ Asks len ∷ []) ≡ ping ∷ len ∷ []
  pub nothing_taken : answers_to [] [] ≡ []
  pub no_reply_yet :
      answers_to (Asks ping ∷ Says (Error UnknownCommand) ∷ Asks len ∷ []) []
      ≡ Awaits ∷ Answer (Error UnknownCommand) ∷ Awaits ∷ []
  pub one_reply :
      answers_to (Asks ping ∷ Says (Error UnknownCommand) ∷ Asks len ∷ []) (Simple Pong ∷ [])
      ≡ Answer (Simple Pong) ∷ Answer (Error UnknownCommand) ∷ Awaits ∷ []
  pub both_replies :
      answers_to (Asks ping ∷ Says (Error UnknownCommand) ∷ Asks len ∷ []) (Simple Pong ∷ Int 2 ∷ [])
      ≡ Answer (Simple Pong) ∷ Answer (Error UnknownCommand) ∷ Answer (Int 2) ∷ []
  pub a_fault_before :
      answers_to (Says (Error Arity) ∷ Asks ping ∷ []) (Simple Pong ∷ []) ≡ Answer (Error Arity) ∷ Answer (Simple Pong) ∷ []
  pub a_quit : quits (Asks command.Quit) ≡ true
  pub another_command : quits (Asks ping) ≡ false
  pub no_quit_of_a_fault : quits (Says (Error Memory)) ≡ false
  pub a_quit_behind_others : has_quit (Asks ping ∷ Says (Error Memory) ∷ Asks command.Quit ∷ []) ≡ true
  pub no_quit_among_others : has_quit (Asks ping ∷ Says (Error Memory) ∷ []) ≡ false

-- whether the command of a line is asked alone, or the fault in it
abbrev pub asked_alone : List ℕ → Result Bool Fault
asked_alone text = result_map_both is_alone (λ fault. fault) (command_of_words (line text))

-- those whose replies may have any size, or may take long
pub record Alone : Type 0 where
  pub a_ping : asked_alone (codes "PING hello") ≡ Ok false
  pub a_quit : asked_alone (codes "QUIT") ≡ Ok false
  pub an_addition : asked_alone (codes "XADD k * f v") ≡ Ok false
  pub a_deletion : asked_alone (codes "XDEL k 1-1") ≡ Ok false
  pub a_trim : asked_alone (codes "XTRIM k MAXLEN 0") ≡ Ok false
  pub a_length : asked_alone (codes "XLEN k") ≡ Ok false
  pub a_range : asked_alone (codes "XRANGE k - +") ≡ Ok true
  pub a_range_back : asked_alone (codes "XREVRANGE k + - COUNT 1") ≡ Ok true
  pub a_new_group : asked_alone (codes "XGROUP CREATE k g 0") ≡ Ok false
  pub a_new_consumer : asked_alone (codes "XGROUP CREATECONSUMER k g c") ≡ Ok false
  pub a_consumer_that_goes : asked_alone (codes "XGROUP DELCONSUMER k g c") ≡ Ok false
  pub a_group_that_goes : asked_alone (codes "XGROUP DESTROY k g") ≡ Ok false
  pub a_read : asked_alone (codes "XREADGROUP GROUP g c BLOCK 0 STREAMS k >") ≡ Ok true
  pub an_acknowledgement : asked_alone (codes "XACK k g 1-1") ≡ Ok false
  pub a_summary : asked_alone (codes "XPENDING k g") ≡ Ok false
  pub rows : asked_alone (codes "XPENDING k g - + 1") ≡ Ok true
  pub a_claim : asked_alone (codes "XCLAIM k g c 0 1-1") ≡ Ok true
  pub a_claim_by_a_scan : asked_alone (codes "XAUTOCLAIM k g c 0 0") ≡ Ok true
  pub keys_that_go : asked_alone (codes "DEL k") ≡ Ok false

abbrev pub scan : Command
scan = scans (at 0 0) (at 9 9) None

-- what may be open at once
pub record Open : Type 0 where
  pub none : MayBeOpen false []
  pub several : MayBeOpen false (ping ∷ add ∷ len ∷ [])
  pub one_alone : MayBeOpen true (scan ∷ [])
  pub several_before_one_alone : MayBeOpen true (ping ∷ add ∷ len ∷ [])
  pub one_alone_as_others : MayBeOpen false (scan ∷ []) → ⊥
  pub one_alone_behind_another : MayBeOpen true (ping ∷ scan ∷ []) → ⊥
  pub another_behind_one_alone : MayBeOpen true (scan ∷ ping ∷ []) → ⊥
  pub two_alone : MayBeOpen true (scan ∷ scan ∷ []) → ⊥
