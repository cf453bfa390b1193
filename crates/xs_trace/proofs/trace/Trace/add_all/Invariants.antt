use Rattle.std.proofs.Common.{◌≡◌, ◌++◌, take}
use Rattle.xs_trace.proofs.trace.Trace.add_all.Given as goal

-- the first items are there
abbrev pub invariant-loop-item : goal.invariant-loop-item
invariant-loop-item g l = l.self ≡ l.initial.self ++ take l.item-index l.items
