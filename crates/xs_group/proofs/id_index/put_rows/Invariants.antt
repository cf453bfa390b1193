use Rattle.xs_group.proofs.Terms.{◌≡◌, cond, take, Some, Id, has_id, indexed_row, first_row}
use Rattle.xs_group.proofs.id_index.put_rows.Given as goal

-- the ids so far have their rows
abbrev pub invariant-loop-i : goal.invariant-loop-i
invariant-loop-i l = (x : Id) → indexed_row l.rows.entries x ≡ cond (has_id (take l.i l.ids) x) (Some (first_row l.name l.now)) (indexed_row l.fn.rows.entries x)
