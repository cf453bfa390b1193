use Rattle.xs_group.proofs.Terms.{◌≡◌, cond, None, Id, has_id, indexed_row}
use Rattle.xs_group.proofs.consumer_index.remove_rows.Given as goal

-- removing the ids that are still to come gives the final rows
abbrev pub invariant-loop-id : goal.invariant-loop-id
invariant-loop-id l = (x : Id) → cond (has_id l.id-iterator x) None (indexed_row l.rows.entries x) ≡ cond (has_id l.ids.keys x) None (indexed_row l.fn.rows.entries x)
