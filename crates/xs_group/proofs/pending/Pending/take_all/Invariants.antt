use Rattle.xs_group.proofs.Terms.{◌≡◌, take, change, unless_acked}
use Rattle.xs_group.proofs.pending.Pending.take_all.Given as goal

-- the ids so far are removed
abbrev pub invariant-loop-id : goal.invariant-loop-id
invariant-loop-id l = l.self ≡ record { consumers = l.fn.self.consumers; rows = change (unless_acked (take l.id-index l.ids)) l.fn.self.rows }
