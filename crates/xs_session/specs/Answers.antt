-- The requests of a connection: which commands they ask, and how each is answered.
use Rattle.std.specs.Prelude.{◌≡◌, ℕ, ◌≤◌, ◌⊎◌, Bool, true, false, not, ◌||◌, List, [], ◌∷◌, ◌++◌, length, codes}
use Rattle.std.specs.Prelude.{Ok, Err}
use Rattle.std.specs.List.{list_any, AllByRecursion}
use Rattle.xs_resp.specs.declared.fault.Fault.TheVariants.{UnknownCommand, Memory}
use Rattle.xs_resp.specs.declared.reply.Reply.{Reply}
use Rattle.xs_resp.specs.declared.reply.Reply.TheVariants.{Error}
use Rattle.xs_command.specs.declared.command.Command.{Command}
use Rattle.xs_command.specs.declared.command.Command.TheVariants.{Quit, Scan, ReadGroup, PendingRows, Claim, AutoClaim}
use Rattle.xs_command.specs.declared.command.Command.TheVariants.{Inspect}
use Rattle.xs_command.specs.declared.command.Inspection.TheVariants.{KeyCount}
use Rattle.xs_command.specs.Read.{command_of_words}
use Rattle.xs_command.specs.Words.{is_word}
use Rattle.xs_resp.specs.declared.fault.Fault.{Fault}
use Rattle.xs_connection.specs.declared.standing.Standing.{Standing}
use Rattle.xs_connection.specs.Standing.{IsAnswered, IsAnsweredStranger, IsQueued, spoilt}
use Rattle.xs_connection.specs.Transaction.{is_queueing, released, released_of}
use Rattle.xs_connection.specs.declared.transaction.Transaction.{Transaction}
use Rattle.xs_connection.specs.declared.transaction.Transaction.TheVariants.{Released}
use Rattle.xs_session.specs.declared.manner.Manner.{Manner}
use Rattle.xs_session.specs.declared.manner.Manner.TheVariants.{Plain, Full}
use Rattle.xs_session.specs.declared.places.Place.{Place}
use Rattle.xs_session.specs.declared.places.Place.TheVariants.{Answer, Awaits, AwaitsKeys}
use Rattle.xs_session.specs.Information.{asks_keys, informed}

-- a request: its command is asked; or the number of keys is asked, for an answer that has this text before it; or it is
-- answered at once
pub data Taken : Type 0 where
  Asks : Command → Taken
  Informs : List ℕ → Taken
  Says : Reply → Taken

-- a request with this name ends a connection, and may always be asked
abbrev pub names_quit : List (List ℕ) → Bool
names_quit [] = false
names_quit (word ∷ words) = is_word (codes "quit") word

-- a password is required that the connection hasn't given
abbrev pub is_stranger : Manner → Standing → Bool
is_stranger Plain standing = false
is_stranger (Full wanted) standing = not standing.is_allowed

-- whether the connection may use the keyspace: if a password is required, only after it was given
abbrev pub may_ask : Manner → Standing → List (List ℕ) → Bool
may_ask Plain standing words = true
may_ask (Full wanted) standing words = standing.is_allowed || names_quit words

-- whether a command is asked at once: QUIT is, and others unless they wait for EXEC
abbrev pub goes_at_once : Standing → Command → Bool
goes_at_once standing Quit = true
goes_at_once standing command = not (is_queueing standing.transaction)

-- the reply to words with this fault: an unknown command may be one of the connection, which asks nothing
abbrev pub IsSaid : Manner → Standing → List (List ℕ) → Fault → Reply → Standing → Type 0
IsSaid (Full wanted) old words UnknownCommand reply new =
    (asks_keys old words ≡ false) × IsAnswered wanted old words reply new
IsSaid manner old words fault reply new = (reply ≡ Error fault) × (new ≡ spoilt old)

-- the reply to words whose command waits for EXEC
abbrev pub IsKept : Standing → List (List ℕ) → Reply → Standing → Type 0
IsKept old words reply new =
    (command : Command) × (command_of_words words ≡ Ok command) × (goes_at_once old command ≡ false)
    × IsQueued old words reply new

-- the reply to words for which nothing is asked
abbrev pub IsRefused : Manner → Bool → Standing → List (List ℕ) → Reply → Standing → Type 0
IsRefused (Full wanted) false old words reply new = IsAnsweredStranger wanted old words reply new
IsRefused manner asks old words reply new =
    ((fault : Fault) × (command_of_words words ≡ Err fault) × IsSaid manner old words fault reply new)
    ⊎ IsKept old words reply new

-- words that ask the number of keys, of a connection that may
abbrev pub IsAskedForKeys : Manner → Standing → List (List ℕ) → Type 0
IsAskedForKeys Plain old words = ⊥
IsAskedForKeys (Full wanted) old words = (may_ask (Full wanted) old words ≡ true) × (asks_keys old words ≡ true)

-- how words are taken, and the connection after it: they are a command, which is asked; or INFO, which asks the number
-- of keys; or they are answered at once; or memory ran out
abbrev pub IsTaken : Manner → Standing → List (List ℕ) → Taken → Standing → Type 0
IsTaken manner old words (Asks command) new =
    (may_ask manner old words ≡ true) × (command_of_words words ≡ Ok command) × (goes_at_once old command ≡ true)
    × (new ≡ old)
IsTaken manner old words (Informs told) new = IsAskedForKeys manner old words × (new ≡ old)
IsTaken manner old words (Says reply) new =
    IsRefused manner (may_ask manner old words) old words reply new ⊎ ((reply ≡ Error Memory) × (new ≡ spoilt old))

-- how words that EXEC has released are taken
abbrev pub IsRun : List (List ℕ) → Taken → Type 0
IsRun words (Asks command) = command_of_words words ≡ Ok command
IsRun words (Informs told) = ⊥
IsRun words (Says reply) =
    ((fault : Fault) × (command_of_words words ≡ Err fault) × (reply ≡ Error fault)) ⊎ (reply ≡ Error Memory)

-- the requests that EXEC has released are taken so, in their order, up to what is left
abbrev pub AreRun : Transaction → List Taken → Transaction → Type 0
AreRun old [] new = new ≡ old
AreRun old (one ∷ more) new =
    (words : List (List ℕ)) × (others : List (List (List ℕ))) × (old ≡ Released (words ∷ others)) × IsRun words one
    × AreRun (released others) more new

-- The requests are taken so, in their order, and after each one those that EXEC has released, of which nothing is left
-- before the next one. A request without words has no effect.
abbrev pub AreTaken : Manner → Standing → List (List (List ℕ)) → List Taken → Standing → Type 0
AreTaken manner old [] taken new = (taken ≡ []) × (new ≡ old)
AreTaken manner old ([] ∷ requests) taken new = AreTaken manner old requests taken new
AreTaken manner old ((word ∷ words) ∷ requests) taken new =
    (first : Taken) × (run others : List Taken) × (mid : Standing) × (left : Transaction)
    × (taken ≡ first ∷ (run ++ others)) × IsTaken manner old (word ∷ words) first mid × AreRun mid.transaction run left
    × ((requests ≡ []) ⊎ (released_of left ≡ []))
    × AreTaken manner (record mid { transaction = left }) requests others new

-- the commands that are asked
abbrev pub asked_of : List Taken → List Command
asked_of [] = []
asked_of (Asks command ∷ more) = command ∷ asked_of more
asked_of (Informs told ∷ more) = Inspect KeyCount ∷ asked_of more
asked_of (Says reply ∷ more) = asked_of more

-- the answers after these replies have come to what was asked, in order, and what waits for a reply
abbrev pub answers_to : List Taken → List Reply → List Place
answers_to [] got = []
answers_to (Says reply ∷ more) got = Answer reply ∷ answers_to more got
answers_to (Asks command ∷ more) [] = Awaits ∷ answers_to more []
answers_to (Asks command ∷ more) (reply ∷ got) = Answer reply ∷ answers_to more got
answers_to (Informs told ∷ more) [] = AwaitsKeys told ∷ answers_to more []
answers_to (Informs told ∷ more) (reply ∷ got) = Answer (informed told reply) ∷ answers_to more got

-- its reply may have any size, or may take long: it is asked alone
abbrev pub is_alone : Command → Bool
is_alone (Scan _) = true
is_alone (ReadGroup _) = true
is_alone (PendingRows _) = true
is_alone (Claim _) = true
is_alone (AutoClaim _) = true
is_alone (Inspect _) = true
is_alone _ = false

-- none of these is asked alone
abbrev pub AreSmall : List Command → Type 0
AreSmall commands = AllByRecursion (λ command. is_alone command ≡ false) commands

-- what was asked and has no reply yet: commands none of which is asked alone, or a single one
abbrev pub MayBeOpen : Bool → List Command → Type 0
MayBeOpen true waiting = AreSmall waiting ⊎ (length waiting ≤ 1)
MayBeOpen false waiting = AreSmall waiting

-- it asks QUIT
abbrev pub quits : Taken → Bool
quits (Asks Quit) = true
quits _ = false

abbrev pub has_quit : List Taken → Bool
has_quit taken = list_any quits taken
