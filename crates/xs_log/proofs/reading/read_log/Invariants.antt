use Rattle.std.proofs.Common.{ℕ, List}
use Rattle.xs_io.specs.Passing.{Consumes}
use Rattle.xs_log.specs.Reading.{IsReadUpTo}
use Rattle.xs_log.proofs.reading.read_log.Given as goal

abbrev pub invariant-loop : goal.invariant-loop
invariant-loop g l =
    (seen : List ℕ) × Consumes (g.R.Source.rest l.fn.log) (g.R.Source.rest l.log) seen
    × IsReadUpTo l.fn.number l.fn.recovered.keyspace l.fn.recovered.last seen l.requests l.at l.recovered.keyspace l.recovered.last
