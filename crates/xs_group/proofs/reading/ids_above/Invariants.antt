use Rattle.xs_group.proofs.Terms.{◌≡◌, ◌≤◌, ◌++◌, filter, length, is_below}
use Rattle.xs_group.proofs.reading.ids_above.Given as goal

-- the ids so far and those to come are those above
abbrev pub invariant-loop-id : goal.invariant-loop-id
invariant-loop-id l = (l.above.items ++ l.id-iterator ≡ filter (λ x. is_below l.fn.from x) l.ids.keys) × (length l.above.items ≤ l.most)
