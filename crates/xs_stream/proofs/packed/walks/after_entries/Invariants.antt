use Rattle.std.proofs.Common.{◌≡◌}
use Rattle.xs_stream.specs.Packed.{after_entries}
use Rattle.xs_stream.proofs.packed.walks.after_entries.Given as goal

-- as many are passed as there were rounds
abbrev pub invariant-loop : goal.invariant-loop
invariant-loop l = l.rest ≡ after_entries l.counter l.bytes
