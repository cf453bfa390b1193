use Rattle.std.proofs.Common.{◌≡◌, List, ◌+◌, ◌++◌, length}
use Rattle.std.specs.Vec.Iter.{into_iter_items, into_iter_len}
use Rattle.xs_keys.specs.Event.{Event}
use Rattle.xs_replay.specs.After.{contents_after, moment_after}
use Rattle.xs_io.specs.Passing.{known_by}
use Rattle.xs_log.specs.Logs.{MayGiveClosedLogs}
use Rattle.xs_log.proofs.logs.read_closed_logs.Given as goal

abbrev pub invariant-loop-log : goal.invariant-loop-log
invariant-loop-log g l =
    ((events : List Event) × MayGiveClosedLogs (known_by g.R.Source.rest) l.fn.first l.yielded events
    × (l.recovered.keyspace ≡ contents_after l.fn.recovered.keyspace events) × (l.recovered.last ≡ moment_after l.fn.recovered.last events))
    × (l.number ≡ l.fn.first + length l.yielded)
    × (l.yielded ++ into_iter_items l.log-iterator ≡ l.fn.logs.items)
    × (into_iter_len l.log-iterator ≡ length (into_iter_items l.log-iterator))
