use Rattle.xs_group.proofs.Terms.{◌≡◌, take, ids_of, shown_rows}
use Rattle.xs_group.proofs.pending.Pending.shown_rows.Given as goal

-- the rows so far
abbrev pub invariant-loop-place : goal.invariant-loop-place
invariant-loop-place l = l.rows.items ≡ shown_rows l.self.rows (ids_of l.stream.entries) (take l.place l.ids)
