use Rattle.xs_group.proofs.Terms.{◌≡◌, take, change, unless_acked, row_ids}
use Rattle.xs_group.proofs.pending.Pending.take_rows.Given as goal

-- the ids so far are removed
abbrev pub invariant-loop-row : goal.invariant-loop-row
invariant-loop-row l = l.self ≡ record { consumers = l.fn.self.consumers; rows = change (unless_acked (row_ids (take l.row-index l.rows))) l.fn.self.rows }
