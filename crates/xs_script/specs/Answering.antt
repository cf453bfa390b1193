-- How the words of a line are answered, by whatever replies to commands: a keyspace, a history.
use Rattle.std.specs.Prelude.{◌≡◌, ℕ, ◌⊎◌, List, Option, Some, None, Ok, Err}
use Rattle.xs_resp.specs.declared.fault.Fault.{Fault}
use Rattle.xs_resp.specs.declared.fault.Fault.TheVariants.{Memory}
use Rattle.xs_resp.specs.declared.reply.Reply.{Reply}
use Rattle.xs_resp.specs.declared.reply.Reply.TheVariants.{Error}
use Rattle.xs_command.specs.declared.command.Command.{Command}
use Rattle.xs_command.specs.Read.{command_of_words}

-- the words are this command, which is asked; or nothing is asked, and the answer reports a fault of theirs, or that
-- memory ran out
abbrev pub Asks : List (List ℕ) → Option Command → Reply → Type 0
Asks words (Some command) answer = command_of_words words ≡ Ok command
Asks words None answer =
    ((fault : Fault) × (command_of_words words ≡ Err fault) × (answer ≡ Error fault)) ⊎ (answer ≡ Error Memory)

-- and what is asked is replied to
abbrev pub Answered :
    {P : Type 0} → (P → Command → Reply → P → Type 0) → P → List (List ℕ) → Option Command → Reply → P → Type 0
Answered Replies old words (Some command) answer new =
    Asks words (Some command) answer × Replies old command answer new
Answered Replies old words None answer new = (new ≡ old) × Asks words None answer

-- the same, whichever command was asked
abbrev pub IsAnswer : {P : Type 0} → (P → Command → Reply → P → Type 0) → P → List (List ℕ) → Reply → P → Type 0
IsAnswer Replies old words answer new = (asked : Option Command) × Answered Replies old words asked answer new
