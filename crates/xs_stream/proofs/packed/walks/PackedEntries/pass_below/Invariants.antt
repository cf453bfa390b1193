use Rattle.std.proofs.Common.{◌≡◌, drop}
use Rattle.xs_stream.specs.Packed.{after_entries}
use Rattle.xs_stream.specs.PassedEntries.{packed_ids, AllBelow}
use Rattle.xs_stream.proofs.packed.walks.PackedEntries.pass_below.Given as goal

-- the entries that were skipped are below the id
abbrev pub invariant-loop-passed : goal.invariant-loop-passed
invariant-loop-passed l = record {
  rest : l.rest ≡ after_entries l.passed (drop l.self.start l.self.bytes.now);
  below : AllBelow l.fn.low (packed_ids l.self.base l.passed (drop l.self.start l.self.bytes.now));
}
