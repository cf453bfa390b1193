use Rattle.std.proofs.Common.{◌≡◌, ◌+◌, ◌≤◌, drop}
use Rattle.xs_keys.specs.InspectionReply.{existing}
use Rattle.xs_keys.proofs.inspect.count_existing.Given as goal

-- what is counted so far and in the rest is all, and at most what was looked at is counted
abbrev pub invariant-loop-name : goal.invariant-loop-name
invariant-loop-name l = (l.count + existing (drop l.name-index l.names) l.keys ≡ existing l.names l.keys) × (l.count ≤ l.name-index)
