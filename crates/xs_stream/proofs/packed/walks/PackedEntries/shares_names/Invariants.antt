use Rattle.std.proofs.Common.{◌≡◌, ◌-◌, drop}
use Rattle.xs_stream.specs.Packed.{shares_names}
use Rattle.xs_stream.proofs.packed.walks.PackedEntries.shares_names.Given as goal

-- it is decided by those left
abbrev pub invariant-loop : goal.invariant-loop
invariant-loop l = shares_names l.self.count (drop l.self.start l.self.bytes.now) ≡ shares_names (l.self.count - l.counter) l.rest
