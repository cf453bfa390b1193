use Rattle.xs_group.proofs.Terms.{◌≡◌, take, map}
use Rattle.xs_group.proofs.moving.shares.Given as goal

-- the name for each of the ids so far
abbrev pub invariant-loop-id : goal.invariant-loop-id
invariant-loop-id l = l.names.items ≡ map (λ x. l.fn.name) (take l._id-index l.ids)
