use Rattle.std.proofs.Common.{◌≡◌, ◌≤◌, drop, length, vec_len, vec_capacity}
use Rattle.xs_keys.proofs.Runs.{RunsSoFar}
use Rattle.xs_keys.proofs.keyspace.Keyspace.run.Given as goal

-- the replies so far are those of a run, and there is room for the others
abbrev pub invariant-loop-event : goal.invariant-loop-event
invariant-loop-event l =
    RunsSoFar l.initial.self l.events l.replies.items l.self (drop l.event-index l.events)
    × (vec_len l.replies ≡ l.event-index) × (length l.events ≤ vec_capacity l.replies)
