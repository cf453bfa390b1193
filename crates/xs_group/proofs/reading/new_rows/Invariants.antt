use Rattle.xs_group.proofs.Terms.{◌≡◌, take, new_rows}
use Rattle.xs_group.proofs.reading.new_rows.Given as goal

-- the rows so far
abbrev pub invariant-loop-id : goal.invariant-loop-id
invariant-loop-id l = l.rows.items ≡ new_rows (take l.id-index l.ids)
