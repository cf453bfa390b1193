use Rattle.std.proofs.Common.{◌≡◌, ◌≤◌, ◌+◌, ◌++◌, length, vec_capacity, vec_len}
use Rattle.xs_maps.proofs.few.give_back.Given as goal

-- the entries so far and those to come, for which there is room
abbrev pub invariant-loop-entry : goal.invariant-loop-entry
invariant-loop-entry g l =
    (goal.iterator-loop-entry g).can_next l.entry-iterator ×
    (goal.iterator-loop-entry g).is_finite l.entry-iterator ×
    (l.few.items ++ l.entry-iterator ≡ l.fn.few.items ++ l.fn.tree.entries) ×
    (vec_len l.few + length l.entry-iterator ≤ vec_capacity l.few)
