-- If the session doesn't answer the commands of a connection itself, nothing waits for EXEC: requests are taken one by
-- one.
use Rattle.std.proofs.Common.{◌≡◌, ℕ, true, false, not, List, [], ◌∷◌, ◌++◌, Ok, Err, sym, ap, ◌∙◌, subst, refl, ◌⊎◌, inl, inr}
use Rattle.xs_resp.specs.declared.fault.Fault.{Fault}
use Rattle.xs_resp.specs.declared.fault.Fault.TheVariants.{Memory}
use Rattle.xs_resp.specs.declared.reply.Reply.TheVariants.{Error}
use Rattle.xs_command.specs.declared.command.Command.{Command}
use Rattle.xs_command.specs.declared.command.Command.TheVariants.{Quit}
use Rattle.xs_command.specs.Read.{command_of_words}
use Rattle.xs_connection.specs.Transaction.{is_queueing, spoiled}
use Rattle.xs_connection.specs.declared.standing.Standing.{Standing}
use Rattle.xs_connection.specs.declared.transaction.Transaction.{Transaction}
use Rattle.xs_connection.specs.declared.transaction.Transaction.TheVariants.{Closed}
use Rattle.xs_session.specs.declared.manner.Manner.TheVariants.{Plain}
use Rattle.xs_session.specs.Answers.{Taken, Asks, Informs, Says, IsTaken, AreRun, AreTaken, goes_at_once}

-- a command is asked; or words with a fault are answered, or memory ran out
abbrev pub IsTakenPlainly : List (List ℕ) → Taken → Type 0
IsTakenPlainly words (Asks command) = command_of_words words ≡ Ok command
IsTakenPlainly words (Informs told) = ⊥
IsTakenPlainly words (Says reply) = ((fault : Fault) × (command_of_words words ≡ Err fault) × (reply ≡ Error fault)) ⊎ (reply ≡ Error Memory)

abbrev pub AreTakenPlainly : List (List (List ℕ)) → List Taken → Type 0
AreTakenPlainly [] taken = taken ≡ []
AreTakenPlainly ([] ∷ requests) taken = AreTakenPlainly requests taken
AreTakenPlainly ((word ∷ words) ∷ requests) taken =
    (first : Taken) × (others : List Taken) × (taken ≡ first ∷ others) × IsTakenPlainly (word ∷ words) first × AreTakenPlainly requests others

-- nothing waits
at-once : (old : Standing) (command : Command) → old.transaction ≡ Closed → goes_at_once old command ≡ true
at-once old Quit closed = refl
at-once old command closed = ap (λ t. not (is_queueing t)) closed

pub plainly : (old mid : Standing) (words : List (List ℕ)) (one : Taken) → old.transaction ≡ Closed → IsTaken Plain old words one mid → IsTakenPlainly words one × (mid.transaction ≡ Closed)
plainly old mid words (Asks command) closed (may, said, once, same) = (said, ap (λ (s : Standing). s.transaction) same ∙ closed)
plainly old mid words (Informs told) closed (never, same) = absurd never
plainly old mid words (Says reply) closed (inl (inl (fault, is, said))) = (inl (fault, is, said.0), ap (λ (s : Standing). s.transaction) said.1 ∙ ap spoiled closed)
plainly old mid words (Says reply) closed (inl (inr (command, is, waits, queued))) = let never : true ≡ false = sym (at-once old command closed) ∙ waits in cc
plainly old mid words (Says reply) closed (inr memory) = (inr memory.0, ap (λ (s : Standing). s.transaction) memory.1 ∙ ap spoiled closed)

closed-run : (run : List Taken) (left : Transaction) → AreRun Closed run left → (run ≡ []) × (left ≡ Closed)
closed-run [] left same = (refl, same)
closed-run (one ∷ run) left (words, others, never, runs, more) = cc

pub all-plainly : (old new : Standing) (requests : List (List (List ℕ))) (taken : List Taken) → old.transaction ≡ Closed → AreTaken Plain old requests taken new → AreTakenPlainly requests taken
all-plainly old new [] taken closed (none, same) = none
all-plainly old new ([] ∷ requests) taken closed are = all-plainly old new requests taken closed are
all-plainly old new ((word ∷ words) ∷ requests) taken closed (first, run, others, mid, left, split, is, ran, clear, are) =
    let so = plainly old mid (word ∷ words) first closed is in
    let none = closed-run run left (subst (λ t. AreRun t run left) so.1 ran) in
    (first, others, split ∙ ap (λ r. first ∷ (r ++ others)) none.0, so.0, all-plainly (record mid { transaction = left }) new requests others none.1 are)
