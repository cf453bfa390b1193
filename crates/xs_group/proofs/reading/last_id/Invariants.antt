use Rattle.xs_group.proofs.Terms.{◌≡◌, take, last_of}
use Rattle.xs_group.proofs.reading.last_id.Given as goal

-- the last of the ids so far
abbrev pub invariant-loop-id : goal.invariant-loop-id
invariant-loop-id l = l.last ≡ last_of l.fn.before (take l.id-index l.ids)
