use Rattle.std.proofs.Common.{◌≡◌, length}
use Rattle.std.specs.Vec.Iter.{into_iter_items, into_iter_len}
use Rattle.xs_command.specs.Streams.{each_from}
use Rattle.xs_command.proofs.StreamSteps.{with_front}
use Rattle.xs_command.proofs.xreadgroup.each_from.Given as goal

-- the reads so far, and those of the keys left
abbrev pub invariant-loop-key : goal.invariant-loop-key
invariant-loop-key l =
    (goal.iterator-loop-key).can_next l.key-iterator
    × (goal.iterator-loop-key).is_finite l.key-iterator
    × (into_iter_len l.key-iterator ≡ length (into_iter_items l.key-iterator))
    × (with_front l.reads.items (each_from (into_iter_items l.key-iterator) l.starts) ≡ each_from l.fn.keys l.fn.starts)
