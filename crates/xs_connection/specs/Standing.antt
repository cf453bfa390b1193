-- The state of a connection, and the replies of the connection itself. (Redis, HELLO, AUTH, CLIENT, SELECT, ECHO,
-- RESET, MULTI, INFO.)
use Rattle.std.specs.Prelude.{◌≡◌, ◌⊎◌, ℕ, Bool, true, false, not, ◌&&◌, List, [], ◌∷◌, ◌++◌, codes, decimal, Option, Some, None}
use Rattle.std.specs.Prelude.{Result, Ok, Err, is_some, if◌then◌else◌}
use Rattle.xs_resp.specs.declared.fault.Fault.{Fault}
use Rattle.xs_resp.specs.declared.fault.Fault.TheVariants.{UnknownCommand, Memory}
use Rattle.xs_resp.specs.declared.reply.Reply.{Reply}
use Rattle.xs_resp.specs.declared.reply.Reply.TheVariants.{Simple, Error, ErrorText, Int, Bulk, NullBulk, Array}
use Rattle.xs_resp.specs.declared.reply.Simple.TheVariants as simple
use Rattle.xs_resp.specs.ReplyItems.{items_of}
use Rattle.xs_connection.specs.declared.command.ConnectionCommand.{ConnectionCommand}
use Rattle.xs_connection.specs.declared.command.ConnectionCommand.TheVariants.{Hello, OtherProtocol, Auth, SetName, BadName}
use Rattle.xs_connection.specs.declared.command.ConnectionCommand.TheVariants.{GetName, GetId, List as ListClients, Accept}
use Rattle.xs_connection.specs.declared.command.ConnectionCommand.TheVariants.{OtherDatabase, Echo, ListNothing, Reset, Multi, Exec, Discard}
use Rattle.xs_connection.specs.declared.command.ConnectionCommand.TheVariants.{Info}
use Rattle.xs_connection.specs.declared.command.Login.{Login}
use Rattle.xs_connection.specs.declared.standing.Standing.{Standing}
use Rattle.xs_connection.specs.Password.{is_right, is_needless}
use Rattle.xs_connection.specs.Read.{connection_command, first_name, is_greeting}
use Rattle.xs_connection.specs.Transaction.{is_queueing, spoiled, begun, queued, executed, discarded}
use Rattle.xs_connection.specs.declared.transaction.Transaction.{Transaction}
use Rattle.xs_connection.specs.declared.transaction.Transaction.TheVariants.{Closed}
use Rattle.xs_connection.specs.Unknown.{unknown_text}

-- ---- the errors

abbrev pub no_auth : List ℕ
no_auth = codes "NOAUTH Authentication required."

abbrev pub no_hello : List ℕ
no_hello = codes "NOAUTH HELLO must be called with the client already authenticated, otherwise the HELLO AUTH <user> <pass> option can be used to authenticate the client and select the RESP protocol version at the same time"

abbrev pub wrong_password : List ℕ
wrong_password = codes "WRONGPASS invalid username-password pair or user is disabled."

abbrev pub no_password : List ℕ
no_password = codes "ERR AUTH <password> called without any password configured for the default user. Are you sure your configuration is correct?"

abbrev pub other_protocol : List ℕ
other_protocol = codes "NOPROTO unsupported protocol version"

abbrev pub other_database : List ℕ
other_database = codes "ERR DB index is out of range"

abbrev pub not_queued : List ℕ
not_queued = codes "ERR Command not allowed inside a transaction"

abbrev pub bad_name : List ℕ
bad_name = codes "ERR Client names cannot contain spaces, newlines or special characters."

-- ---- the replies

abbrev pub okay : Reply
okay = Simple simple.Okay

-- the version of Redis that this server reports
abbrev pub version : List ℕ
version = codes "7.0.15"

-- what HELLO reports about the server and the connection
abbrev pub greeting : ℕ → List Reply
greeting id =
    Bulk (codes "server") ∷ Bulk (codes "redis")
    ∷ Bulk (codes "version") ∷ Bulk version
    ∷ Bulk (codes "proto") ∷ Int 2
    ∷ Bulk (codes "id") ∷ Int id
    ∷ Bulk (codes "mode") ∷ Bulk (codes "standalone")
    ∷ Bulk (codes "role") ∷ Bulk (codes "master")
    ∷ Bulk (codes "modules") ∷ Array (items_of []) ∷ []

-- an empty name is no name
abbrev pub name_reply : List ℕ → Reply
name_reply [] = NullBulk
name_reply (byte ∷ bytes) = Bulk (byte ∷ bytes)

-- this connection in a list of all
abbrev pub client_line : Standing → List ℕ
client_line standing =
    codes "id=" ++ (decimal standing.id ++ (codes " name=" ++ (standing.name
    ++ (codes " db=0 user=default resp=2" ++ 10 ∷ []))))

-- with a name, if one is given
abbrev pub with_name : Option (List ℕ) → Standing → Standing
with_name None standing = standing
with_name (Some name) standing = record standing { name = name }

-- a new connection
abbrev pub as_new : Option (List ℕ) → Standing → Standing
as_new wanted standing = record standing { name = []; is_allowed = not (is_some wanted); transaction = Closed }

-- the connection after a request that is refused
abbrev pub spoilt : Standing → Standing
spoilt standing = record standing { transaction = spoiled standing.transaction }

-- with the transaction after the reply
abbrev pub with_transaction : Standing → Reply × Transaction → Reply × Standing
with_transaction standing (reply, transaction) = (reply, record standing { transaction = transaction })

-- AUTH
abbrev pub auth_answer : Option (List ℕ) → Standing → Login → Reply × Standing
auth_answer wanted standing login =
    if is_needless wanted login.user then (ErrorText no_password, standing)
    else (if is_right wanted login then (okay, record standing { is_allowed = true })
    else (ErrorText wrong_password, standing))

-- HELLO, once its login is right
abbrev pub greet : Standing → Option (List ℕ) → Reply × Standing
greet standing name =
    (Array (items_of (greeting standing.id)), with_name name (record standing { is_allowed = true }))

-- HELLO without AUTH
abbrev pub hello_alone : Standing → Option (List ℕ) → Reply × Standing
hello_alone standing name =
    if standing.is_allowed then greet standing name else (ErrorText no_hello, standing)

-- HELLO
abbrev pub hello_answer : Option (List ℕ) → Standing → Option Login → Option (List ℕ) → Reply × Standing
hello_answer wanted standing None name = hello_alone standing name
hello_answer wanted standing (Some login) name =
    if is_right wanted login then greet standing name else (ErrorText wrong_password, standing)

-- The reply to each command if this password is required, and the connection after it. The reply to INFO is what the
-- server reports about itself.
abbrev pub applied : Option (List ℕ) → List ℕ → Standing → ConnectionCommand → Reply × Standing
applied wanted told standing (Hello hello) = hello_answer wanted standing hello.login hello.name
applied wanted told standing OtherProtocol = (ErrorText other_protocol, standing)
applied wanted told standing (Auth login) = auth_answer wanted standing login
applied wanted told standing (SetName name) = (okay, record standing { name = name })
applied wanted told standing BadName = (ErrorText bad_name, standing)
applied wanted told standing GetName = (name_reply standing.name, standing)
applied wanted told standing GetId = (Int standing.id, standing)
applied wanted told standing ListClients = (Bulk (client_line standing), standing)
applied wanted told standing Accept = (okay, standing)
applied wanted told standing OtherDatabase = (ErrorText other_database, standing)
applied wanted told standing (Echo text) = (Bulk text, standing)
applied wanted told standing ListNothing = (Array (items_of []), standing)
applied wanted told standing Reset = (Simple simple.Reset, as_new wanted standing)
applied wanted told standing Multi = with_transaction standing (begun standing.transaction)
applied wanted told standing Exec = with_transaction standing (executed standing.transaction)
applied wanted told standing Discard = with_transaction standing (discarded standing.transaction)
applied wanted told standing Info = (Bulk told, standing)

-- what is accepted between MULTI and EXEC
abbrev pub is_heard : ConnectionCommand → Bool
is_heard Reset = true
is_heard Multi = true
is_heard Exec = true
is_heard Discard = true
is_heard command = false

-- no other command of a connection waits for EXEC
abbrev pub answer_to_command : Option (List ℕ) → List ℕ → Standing → ConnectionCommand → Reply × Standing
answer_to_command wanted told standing command =
    if is_queueing standing.transaction && not (is_heard command) then (ErrorText not_queued, spoilt standing)
    else applied wanted told standing command

-- the reply to words that spell a command of the connection, or a fault
abbrev pub answer_to :
    Option (List ℕ) → List ℕ → Standing → List (List ℕ) → Result ConnectionCommand Fault → Reply × Standing
answer_to wanted told standing words (Ok command) = answer_to_command wanted told standing command
answer_to wanted told standing words (Err UnknownCommand) = (ErrorText (unknown_text words), spoilt standing)
answer_to wanted told standing words (Err fault) = (Error fault, spoilt standing)

-- the reply to words that aren't a command of the keyspace
abbrev pub answer_of : Option (List ℕ) → List ℕ → Standing → List (List ℕ) → Reply × Standing
answer_of wanted told standing words = answer_to wanted told standing words (connection_command words)

-- the words get this reply, for some report of the server about itself; or memory ran out, which is a refusal
abbrev pub IsAnswered : Option (List ℕ) → Standing → List (List ℕ) → Reply → Standing → Type 0
IsAnswered wanted old words reply new =
    ((told : List ℕ) × ((reply, new) ≡ answer_of wanted told old words))
    ⊎ ((reply ≡ Error Memory) × (new ≡ spoilt old))

-- the reply to words before the password is given: only a greeting is accepted
abbrev pub stranger_answer : Option (List ℕ) → List ℕ → Standing → List (List ℕ) → Reply × Standing
stranger_answer wanted told standing words =
    if is_greeting (first_name words) then answer_of wanted told standing words else (ErrorText no_auth, standing)

-- the words get this reply before the password is given, or memory ran out
abbrev pub IsAnsweredStranger : Option (List ℕ) → Standing → List (List ℕ) → Reply → Standing → Type 0
IsAnsweredStranger wanted old words reply new =
    ((told : List ℕ) × ((reply, new) ≡ stranger_answer wanted told old words))
    ⊎ ((reply ≡ Error Memory) × (new ≡ spoilt old))

-- the words of a command wait for EXEC; or memory ran out, and no words wait any more
abbrev pub IsQueued : Standing → List (List ℕ) → Reply → Standing → Type 0
IsQueued old words reply new =
    ((reply, new) ≡ with_transaction old (queued old.transaction words)) ⊎ ((reply ≡ Error Memory) × (new ≡ spoilt old))
