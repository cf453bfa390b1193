use Rattle.std.proofs.Common.{◌≡◌, ◌++◌, ◌+◌, ◌*◌, ◌-◌, ◌<◌, ◌≤◌, length, vec_len, vec_capacity}
use Rattle.xs_command.specs.Fields.{pairs}
use Rattle.xs_command.proofs.xadd.read_pairs.Given as goal

-- the fields so far, with room for all, and those of the words left
abbrev pub invariant-loop-pair : goal.invariant-loop-pair
invariant-loop-pair l = (l.items.items ++ pairs l.left ≡ pairs l.fn.words) × (2 * (l.count - l._pair) ≤ length l.left) × (length l.left < 2 * (l.count - l._pair) + 2)
    × (vec_len l.items ≡ l._pair) × (l.count ≤ vec_capacity l.items)
