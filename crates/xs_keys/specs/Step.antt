-- One call: applied, or answered OOM.
use Rattle.std.specs.Prelude.{◌≡◌, ℕ, Bool, true, false, ◌⊎◌, Some, Result, Ok, Err}
use Rattle.std.specs.declared.alloc.AllocError.{AllocError}
use Rattle.xs_keys.specs.Terms.{Memory, Reply, Error, Command, Ping, Add, Scan}
use Rattle.xs_keys.specs.Terms.{GroupCreate, ConsumerCreate, ReadGroup, Pending, PendingRows, Claim, AutoClaim, Inspect}
use Rattle.xs_command.specs.declared.command.Inspection.TheVariants.{Stream, StreamInFull, Groups, Consumers}
use Rattle.xs_keys.specs.Content.{Content}
use Rattle.xs_keys.specs.ContentAfter.{content_after}
use Rattle.xs_keys.specs.Reply.{reply}

-- the commands for which memory may run out
abbrev pub takes_memory : Command → Bool
takes_memory (Ping (Some message)) = true
takes_memory (Add add) = true
takes_memory (Scan scan) = true
takes_memory (GroupCreate create) = true
takes_memory (ConsumerCreate key group consumer) = true
takes_memory (ReadGroup read) = true
takes_memory (Pending key group) = true
takes_memory (PendingRows pending) = true
takes_memory (Claim claim) = true
takes_memory (AutoClaim claim) = true
takes_memory (Inspect (Stream key)) = true
takes_memory (Inspect (StreamInFull key limit)) = true
takes_memory (Inspect (Groups key)) = true
takes_memory (Inspect (Consumers key group)) = true
takes_memory _ = false

abbrev pub is_error : Reply → Bool
is_error (Error fault) = true
is_error _ = false

-- the reply is the model's, and so is the content after it
pub record Applied (old : Content) (now : ℕ) (command : Command) (answer : Reply) (new : Content) : Type 0 where
  pub answer_is : answer ≡ reply old now command
  pub content_is : new ≡ content_after old now command

-- the same at any moment: the command doesn't depend on the time
abbrev pub AppliedAtAnyTime : Content → Command → Reply → Content → Type 0
AppliedAtAnyTime old command answer new = (now : ℕ) → Applied old now command answer new

-- memory ran out, for a command that takes some and that the model doesn't refuse: nothing has changed
pub record OutOfMemory (old : Content) (now : ℕ) (command : Command) (answer : Reply) (new : Content) : Type 0 where
  pub takes : takes_memory command ≡ true
  pub no_other : is_error (reply old now command) ≡ false
  pub answer_is : answer ≡ Error Memory
  pub content_is : new ≡ old

abbrev pub Step : Content → ℕ → Command → Reply → Content → Type 0
Step old now command answer new = Applied old now command answer new ⊎ OutOfMemory old now command answer new

-- one call whose result shows if memory ran out
abbrev pub Attempt : Content → ℕ → Command → Result Reply AllocError → Content → Type 0
Attempt old now command (Ok answer) new = Applied old now command answer new
Attempt old now command (Err refused) new = OutOfMemory old now command (Error Memory) new

-- the same at any moment: the command doesn't depend on the time
abbrev pub AttemptAtAnyTime : Content → Command → Result Reply AllocError → Content → Type 0
AttemptAtAnyTime old command result new = (now : ℕ) → Attempt old now command result new

-- a step with its arguments in another order: a moment, the content before, a command, its reply and the content after
abbrev pub StepAt : ℕ → Content → Command → Reply → Content → Type 0
StepAt now old command answer new = Step old now command answer new

-- what is refused changes nothing: if the reply is an error, the content is unchanged
abbrev pub IsUnchangedIfRefused : Content → ℕ → Command → Type 0
IsUnchangedIfRefused content now command =
    is_error (reply content now command) ≡ true → content_after content now command ≡ content
