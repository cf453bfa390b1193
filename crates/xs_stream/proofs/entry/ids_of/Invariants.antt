use Rattle.std.proofs.Common.{◌≡◌, take}
use Rattle.xs_stream.specs.StreamContent.{ids_of}
use Rattle.xs_stream.proofs.entry.ids_of.Given as goal

-- the ids so far
abbrev pub invariant-loop-entry : goal.invariant-loop-entry
invariant-loop-entry l = l.ids.items ≡ ids_of (take l.entry-index l.entries)
