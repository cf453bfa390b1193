-- The result of an attempt, by what is known of it.
use Rattle.std.proofs.Common.{ℕ, Result, Ok, Err, IfOk, OnOk, OnErr}
use Rattle.std.specs.declared.alloc.AllocError.{AllocError}
use Rattle.xs_keys.specs.Terms.{Reply, Error, Memory, Command}
use Rattle.xs_keys.specs.Content.{Content}
use Rattle.xs_keys.specs.Step.{Applied, OutOfMemory, Attempt}

module _ (old : Content) (now : ℕ) (command : Command) (new : Content) where
  pub attempted : (result : Result Reply AllocError) (Answers : Reply → Type 0) (Changes Refuses : Type 0) → IfOk result Answers → OnOk result Changes → OnErr result Refuses
      → ((reply : Reply) → Answers reply → Changes → Applied old now command reply new) → (Refuses → OutOfMemory old now command (Error Memory) new) → Attempt old now command result new
  attempted (Ok reply) Answers Changes Refuses answers changes refuses applied refused = applied reply answers changes
  attempted (Err error) Answers Changes Refuses answers changes refuses applied refused = refused refuses
