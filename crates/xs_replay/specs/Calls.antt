-- Calls that were served, and what a log has of them. There is one rule for what a log may leave out: an event that
-- changed no content.
use Rattle.std.specs.Prelude.{◌≡◌, ℕ, zero, suc, ◌≤◌, Bool, true, false, ◌||◌, List, [], ◌∷◌, map, length, take}
use Rattle.std.specs.Prelude.{if◌then◌else◌}
use Rattle.std.specs.List.{flat_map}
use Rattle.xs_resp.specs.declared.reply.Reply.{Reply}
use Rattle.xs_command.specs.declared.command.Command.{Command}
use Rattle.xs_command.specs.declared.command.Command.TheVariants.{Ping, Quit, Len, Scan, Pending, PendingRows}
use Rattle.xs_command.specs.declared.command.Command.TheVariants.{Inspect}
use Rattle.xs_command.specs.WellFormed.{IsWellFormed}
use Rattle.xs_keys.specs.Event.{Event, event_moment, event_command}
use Rattle.xs_keys.specs.Content.{Content}
use Rattle.xs_keys.specs.Step.{Step, is_error}
use Rattle.xs_replay.specs.After.{after, contents_after}

-- a call that was served: its event, the reply, and whether the log has it
pub record Call : Type 0 where
  pub event : Event
  pub answer : Reply
  pub in_log : Bool

-- the rule: an event is left out only if the content stayed the same
abbrev pub KeepsTheRule : Bool → Content → Event → Content → Type 0
KeepsTheRule true old event new = new ≡ after old event
KeepsTheRule false old event new = new ≡ old

-- a call that was served, and is in the log or not by the rule
pub record ServesOne (old : Content) (call : Call) (new : Content) : Type 0 where
  pub formed : IsWellFormed (event_command call.event)
  pub step : Step old (event_moment call.event) (event_command call.event) call.answer new
  pub rule : KeepsTheRule call.in_log old call.event new

-- calls, one after the other
abbrev pub Serves : Content → List Call → Content → Type 0
Serves old [] new = new ≡ old
Serves old (call ∷ calls) new = (between : Content) × ServesOne old call between × Serves between calls new

abbrev pub events_of : List Call → List Event
events_of calls = map (λ call. call.event) calls

abbrev pub answers_of : List Call → List Reply
answers_of calls = map (λ call. call.answer) calls

-- the events of calls that the log has
abbrev pub log_of : List Call → List Event
log_of [] = []
log_of (call ∷ calls) = if call.in_log then call.event ∷ log_of calls else log_of calls

-- the calls that survive if the log keeps this many events: those before the first event that is lost
abbrev pub survivors : ℕ → List Call → List Call
survivors kept [] = []
survivors zero (call ∷ calls) = if call.in_log then [] else call ∷ survivors zero calls
survivors (suc kept) (call ∷ calls) = call ∷ survivors (if call.in_log then kept else suc kept) calls

-- a life of a server: the calls that it served, and how many events of its log the next life finds
pub record ServerLife : Type 0 where
  pub calls : List Call
  pub found : ℕ

-- lives of a server over one log: each begins with the content that was found
abbrev pub Lives : Content → List ServerLife → Content → Type 0
Lives old [] new = new ≡ old
Lives old (life ∷ lives) new =
    (last : Content) × Serves old life.calls last × (life.found ≤ length (log_of life.calls))
    × Lives (contents_after old (take life.found (log_of life.calls))) lives new

-- the calls of lives that survived
abbrev pub survivors_of : List ServerLife → List Call
survivors_of lives = flat_map (λ life. survivors life.found life.calls) lives

-- the commands that only read
abbrev pub only_reads : Command → Bool
only_reads (Ping message) = true
only_reads Quit = true
only_reads (Len key) = true
only_reads (Scan scan) = true
only_reads (Pending key group) = true
only_reads (PendingRows pending) = true
only_reads (Inspect inspection) = true
only_reads _ = false

-- a log leaves out a command that only reads, and one that was refused
abbrev pub is_left_out : Command → Reply → Bool
is_left_out command answer = only_reads command || is_error answer
