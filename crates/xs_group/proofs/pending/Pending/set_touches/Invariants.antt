use Rattle.xs_group.proofs.Terms.{◌≡◌, take, set_rows}
use Rattle.xs_group.proofs.pending.Pending.set_touches.Given as goal

-- the rows so far are set
abbrev pub invariant-loop-row : goal.invariant-loop-row
invariant-loop-row l = l.self ≡ record { consumers = l.fn.self.consumers; rows = set_rows l.fn.now (take l.row-index l.rows) l.fn.self.rows }
