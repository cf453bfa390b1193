-- What a reader knows of the bytes that it holds.
use Rattle.std.specs.Prelude.{ℕ, List, Ok, Err}
use Rattle.xs_resp.specs.declared.requests.State.{State}
use Rattle.xs_resp.specs.declared.requests.State.TheVariants.{Between, Within, Failed}
use Rattle.xs_resp.specs.HeldBytes.{Held}
use Rattle.xs_resp.specs.Progress.{IsProgressOf}

-- what is held, given these bytes and this state
abbrev pub held_in : State → List ℕ → Held
held_in Between bytes = Ok bytes
held_in (Within progress) bytes = Ok bytes
held_in (Failed wrong) bytes = Err wrong

-- what is known of the bytes
abbrev pub IsState : State → List ℕ → Type 0
IsState Between bytes = Unit {0}
IsState (Within progress) bytes = IsProgressOf bytes progress
IsState (Failed wrong) bytes = Unit {0}
