-- What a journal has of the calls that were served, and which answers may be handed out.
use Rattle.std.specs.Prelude.{ℕ, Bool, List, [], ◌∷◌, ◌++◌, length, if◌then◌else◌}
use Rattle.xs_keys.specs.Event.{Event}
use Rattle.xs_keys.specs.Content.{Content}
use Rattle.xs_replay.specs.Calls.{KeepsTheRule}

-- an event, if a log has it
abbrev pub event_if : Bool → Event → List Event
event_if in_log event = if in_log then event ∷ [] else []

-- without a log nothing is stated of events: a crash leaves nothing of them
abbrev pub HasNoLog : {J : Type 0} → J → List Event → ℕ → Type 0
HasNoLog journal events kept = Unit {0}

module _ {J : Type 0} (has : J → List Event → ℕ → Type 0) where
  -- an event was noted, or left out because it changed nothing
  pub record Notes (before : J) (event : Event) (old new : Content) (later : J) : Type 0 where
    pub in_log : Bool
    pub rule : KeepsTheRule in_log old event new
    pub noted : (events : List Event) (kept : ℕ) → has before events kept → has later (events ++ event_if in_log event) kept

  -- whatever was noted is kept at once
  abbrev pub KeepsAtOnce : Type 0
  KeepsAtOnce = (journal : J) (events : List Event) (kept : ℕ) → has journal events kept → has journal events (length events)
