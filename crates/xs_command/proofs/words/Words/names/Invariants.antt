use Rattle.std.proofs.Common.{◌≡◌, ◌≤◌, take, drop, vec_len, vec_capacity}
use Rattle.xs_command.proofs.words.Words.names.Given as goal

-- the words so far, copied, with room for all, and those after them
abbrev pub invariant-loop-name : goal.invariant-loop-name
invariant-loop-name l = (l.names.items ≡ take l._name l.self) × (l.left ≡ drop l._name l.self)
    × (vec_len l.names ≡ l._name) × (l.count ≤ vec_capacity l.names)
