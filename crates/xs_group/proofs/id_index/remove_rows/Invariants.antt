use Rattle.xs_group.proofs.Terms.{◌≡◌, cond, take, None, Id, has_id, indexed_row}
use Rattle.xs_group.proofs.id_index.remove_rows.Given as goal

-- the rows of the ids so far are removed
abbrev pub invariant-loop-id : goal.invariant-loop-id
invariant-loop-id l = (x : Id) → indexed_row l.rows.entries x ≡ cond (has_id (take l.id-index l.ids) x) None (indexed_row l.fn.rows.entries x)
