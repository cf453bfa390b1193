-- The replies of a connection itself, by examples, as a real Redis 7.0 gives them. Redis knows RESP3, reports more in
-- CLIENT LIST, and puts spaces in the place of CR and LF.
use Rattle.std.specs.Prelude.{◌≡◌, ℕ, Bool, true, false, List, [], ◌∷◌, ◌++◌, codes, replicate, Option, Some, None}
use Rattle.xs_resp.specs.declared.fault.Fault.TheVariants.{Arity, NotInteger, Syntax}
use Rattle.xs_resp.specs.declared.reply.Reply.{Reply}
use Rattle.xs_resp.specs.declared.reply.Reply.TheVariants.{Simple, Error, ErrorText, Int, Bulk, NullBulk, Array, Opening}
use Rattle.xs_resp.specs.declared.reply.Simple.TheVariants as simple
use Rattle.xs_resp.specs.ReplyItems.{items_of}
use Rattle.xs_command.specs.Examples.{line}
use Rattle.xs_connection.specs.declared.standing.Standing.{Standing}
use Rattle.xs_connection.specs.Standing.{answer_of, stranger_answer}
use Rattle.xs_connection.specs.QueueRoom.{has_room}
use Rattle.xs_connection.specs.Transaction.{queued}
use Rattle.xs_connection.specs.declared.transaction.Transaction.{Transaction}
use Rattle.xs_connection.specs.declared.transaction.Transaction.TheVariants.{Closed, Open, Spoiled, Released}
use Rattle.xs_connection.specs.Unknown.{unknown_text}

-- the third connection, with this name
abbrev pub third : List ℕ → Bool → Standing
third name is_allowed = record { id = 3; name = name; is_allowed = is_allowed; transaction = Closed }

abbrev pub secret : Option (List ℕ)
secret = Some (codes "secret")

-- what the server reports about itself
abbrev pub about : List ℕ
about = codes "loading:0"

-- a line of words gets this reply; then the connection has this name and may send commands or not
abbrev pub IsSaid : Option (List ℕ) → Standing → List ℕ → Reply → Standing → Type 0
IsSaid wanted old text reply new = answer_of wanted about old (line text) ≡ (reply, new)

-- the same before the password is given
abbrev pub IsSaidFirst : List ℕ → Reply → Standing → Type 0
IsSaidFirst text reply new = stranger_answer secret about (third [] false) (line text) ≡ (reply, new)

-- a reply that changes nothing, if no password is required
abbrev pub Tells : List ℕ → Reply → Type 0
Tells text reply = IsSaid None (third (codes "app") true) text reply (third (codes "app") true)

abbrev pub greeting : Reply
greeting =
    Array (items_of (Bulk (codes "server") ∷ Bulk (codes "redis") ∷ Bulk (codes "version") ∷ Bulk (codes "7.0.15")
    ∷ Bulk (codes "proto") ∷ Int 2 ∷ Bulk (codes "id") ∷ Int 3 ∷ Bulk (codes "mode") ∷ Bulk (codes "standalone")
    ∷ Bulk (codes "role") ∷ Bulk (codes "master") ∷ Bulk (codes "modules") ∷ Array (items_of []) ∷ []))

abbrev pub nothing : Reply
nothing = Array (items_of [])

abbrev pub okay : Reply
okay = Simple simple.Okay

abbrev pub no_auth : Reply
no_auth = ErrorText (codes "NOAUTH Authentication required.")

abbrev pub wrong : Reply
wrong = ErrorText (codes "WRONGPASS invalid username-password pair or user is disabled.")

abbrev pub bad_name : Reply
bad_name = ErrorText (codes "ERR Client names cannot contain spaces, newlines or special characters.")

abbrev pub other_protocol : Reply
other_protocol = ErrorText (codes "NOPROTO unsupported protocol version")

abbrev pub other_database : Reply
other_database = ErrorText (codes "ERR DB index is out of range")

-- what is reported, and what is accepted
pub record Telling : Type 0 where
  pub hello : Tells (codes "HELLO") greeting
  pub hello_of_resp2 : Tells (codes "hello 2") greeting
  pub hello_of_another_protocol : Tells (codes "HELLO 4") other_protocol
  pub hello_of_no_number : Tells (codes "HELLO 3x") (Error NotInteger)
  pub hello_with_an_unknown_option : Tells (codes "HELLO 2 FOO") (Error Syntax)
  pub name : Tells (codes "CLIENT GETNAME") (Bulk (codes "app"))
  pub number : Tells (codes "CLIENT ID") (Int 3)
  pub number_with_a_word_too_many : Tells (codes "CLIENT ID 3") (Error Arity)
  pub a_library : Tells (codes "CLIENT SETINFO LIB-NAME redis-py") okay
  pub the_database : Tells (codes "SELECT 0") okay
  pub another_database : Tells (codes "SELECT 99") other_database
  pub a_database_below_zero : Tells (codes "SELECT -1") other_database
  pub no_database : Tells (codes "SELECT x") (Error NotInteger)
  pub an_echo : Tells (codes "ECHO hi") (Bulk (codes "hi"))
  pub two_echoes : Tells (codes "ECHO a b") (Error Arity)
  pub commands : Tells (codes "COMMAND") nothing
  pub descriptions : Tells (codes "COMMAND DOCS xadd") nothing
  pub settings : Tells (codes "CONFIG GET maxmemory") nothing
  pub settings_of_no_pattern : Tells (codes "CONFIG GET") (Error Arity)
  pub information : Tells (codes "INFO") (Bulk (codes "loading:0"))
  pub information_of_sections : Tells (codes "info server CLIENTS") (Bulk (codes "loading:0"))
  pub nothing_watched : Tells (codes "UNWATCH") okay
  pub needless_password :
      Tells (codes "AUTH x")
      (ErrorText (codes "ERR AUTH <password> called without any password configured for the default user. Are you sure your configuration is correct?"))
  pub needless_login : Tells (codes "AUTH default x") okay
  pub another_user : Tells (codes "AUTH other x") wrong
  pub three_words : Tells (codes "AUTH a b c") (Error Syntax)
  pub unknown :
      Tells (codes "FOO a b") (ErrorText (codes "ERR unknown command 'FOO', with args beginning with: 'a' 'b' "))

-- the connection in a list of all
abbrev pub own_line : List ℕ
own_line = codes "id=3 name=app db=0 user=default resp=2" ++ 10 ∷ []

pub record Lists : Type 0 where
  pub itself : Tells (codes "CLIENT LIST") (Bulk own_line)

-- what a connection states about itself
pub record Standings : Type 0 where
  pub a_name : IsSaid None (third [] true) (codes "CLIENT SETNAME app") okay (third (codes "app") true)
  pub a_name_in_hello : IsSaid None (third [] true) (codes "HELLO 2 SETNAME n") greeting (third (codes "n") true)
  pub a_space_in_a_name :
      answer_of None about (third [] true) (codes "CLIENT" ∷ codes "SETNAME" ∷ codes "a b" ∷ [])
      ≡ (bad_name, third [] true)
  pub a_space_in_the_name_of_hello :
      answer_of None about (third [] true) (codes "HELLO" ∷ codes "2" ∷ codes "SETNAME" ∷ codes "a b" ∷ [])
      ≡ (bad_name, third [] true)
  pub no_name : IsSaid None (third [] true) (codes "CLIENT GETNAME") NullBulk (third [] true)
  pub a_reset : IsSaid None (third (codes "app") true) (codes "RESET") (Simple simple.Reset) (third [] true)
  pub a_reset_takes_the_password_away :
      IsSaid secret (third (codes "app") true) (codes "RESET") (Simple simple.Reset) (third [] false)

-- replies before the password is given
pub record Strangers : Type 0 where
  pub the_password : IsSaidFirst (codes "AUTH secret") okay (third [] true)
  pub of_the_user : IsSaidFirst (codes "AUTH default secret") okay (third [] true)
  pub of_another_user : IsSaidFirst (codes "AUTH other secret") wrong (third [] false)
  pub another_one : IsSaidFirst (codes "AUTH wrong") wrong (third [] false)
  pub its_beginning : IsSaidFirst (codes "AUTH secre") wrong (third [] false)
  pub more_than_it : IsSaidFirst (codes "AUTH secrets") wrong (third [] false)
  pub hello :
      IsSaidFirst (codes "HELLO 2")
      (ErrorText (codes "NOAUTH HELLO must be called with the client already authenticated, otherwise the HELLO AUTH <user> <pass> option can be used to authenticate the client and select the RESP protocol version at the same time"))
      (third [] false)
  pub hello_with_it :
      IsSaidFirst (codes "HELLO 2 AUTH default secret SETNAME me") greeting (third (codes "me") true)
  pub hello_with_another : IsSaidFirst (codes "HELLO 2 AUTH default wrong SETNAME me") wrong (third [] false)
  pub a_name : IsSaidFirst (codes "CLIENT SETNAME app") no_auth (third [] false)
  pub an_echo : IsSaidFirst (codes "ECHO x") no_auth (third [] false)
  pub information : IsSaidFirst (codes "INFO") no_auth (third [] false)
  pub an_addition : IsSaidFirst (codes "XADD s * f v") no_auth (third [] false)
  pub a_reset : IsSaidFirst (codes "RESET") (Simple simple.Reset) (third [] false)

-- the third connection, with a transaction
abbrev pub with_it : Transaction → Standing
with_it transaction = record { id = 3; name = []; is_allowed = true; transaction = transaction }

-- a line of words gets this reply, and this is the transaction after it
abbrev pub GoesOn : Transaction → List ℕ → Reply → Transaction → Type 0
GoesOn old text reply new = IsSaid None (with_it old) text reply (with_it new)

abbrev pub ping : List (List ℕ)
ping = line (codes "PING")

abbrev pub length_of_s : List (List ℕ)
length_of_s = line (codes "XLEN s")

-- between MULTI and EXEC; the text for a command of the connection, and for a lack of room, is this server's own
pub record Transactions : Type 0 where
  pub begins : GoesOn Closed (codes "MULTI") okay (Open [])
  pub not_in_another :
      GoesOn (Open (ping ∷ [])) (codes "MULTI") (ErrorText (codes "ERR MULTI calls can not be nested")) (Open (ping ∷ []))
  pub a_command_waits : queued (Open (ping ∷ [])) length_of_s ≡ (Simple simple.Queued, Open (ping ∷ length_of_s ∷ []))
  pub one_behind_a_fault_is_dropped : queued Spoiled ping ≡ (Simple simple.Queued, Spoiled)
  pub no_room : has_room (replicate 1024 ping) ping ≡ false
  pub executes : GoesOn (Open (ping ∷ length_of_s ∷ [])) (codes "EXEC") (Opening 2) (Released (ping ∷ length_of_s ∷ []))
  pub executes_nothing : GoesOn (Open []) (codes "EXEC") (Opening 0) Closed
  pub executes_none_behind_a_fault :
      GoesOn Spoiled (codes "EXEC")
      (ErrorText (codes "EXECABORT Transaction discarded because of previous errors.")) Closed
  pub no_execution : GoesOn Closed (codes "EXEC") (ErrorText (codes "ERR EXEC without MULTI")) Closed
  pub discards : GoesOn (Open (ping ∷ [])) (codes "DISCARD") okay Closed
  pub discards_behind_a_fault : GoesOn Spoiled (codes "DISCARD") okay Closed
  pub nothing_to_discard : GoesOn Closed (codes "DISCARD") (ErrorText (codes "ERR DISCARD without MULTI")) Closed
  pub an_unknown_command :
      GoesOn (Open (ping ∷ [])) (codes "FOO")
      (ErrorText (codes "ERR unknown command 'FOO', with args beginning with: ")) Spoiled
  pub a_command_of_the_connection :
      GoesOn (Open []) (codes "ECHO a") (ErrorText (codes "ERR Command not allowed inside a transaction")) Spoiled
  pub no_information :
      GoesOn (Open []) (codes "INFO") (ErrorText (codes "ERR Command not allowed inside a transaction")) Spoiled
  pub a_reset : GoesOn (Open (ping ∷ [])) (codes "RESET") (Simple simple.Reset) Closed

-- unknown commands by their names
pub record Unknowns : Type 0 where
  pub alone :
      unknown_text (line (codes "FOO")) ≡ codes "ERR unknown command 'FOO', with args beginning with: "
  pub with_words :
      unknown_text (line (codes "FOO a b"))
      ≡ codes "ERR unknown command 'FOO', with args beginning with: 'a' 'b' "
  pub control_bytes :
      unknown_text ((70 ∷ 13 ∷ 10 ∷ []) ∷ (127 ∷ []) ∷ [])
      ≡ codes "ERR unknown command 'F\\x0d\\x0a', with args beginning with: '\\x7f' "
