use Rattle.std.proofs.Common.{◌≡◌, ◌++◌}
use Rattle.xs_replay.specs.SnapshotWords.{id_words, field_words}
use Rattle.xs_log.proofs.piece_values.entry_values.Given as goal

-- the words so far and those of the fields that are left are all
abbrev pub invariant-loop-field : goal.invariant-loop-field
invariant-loop-field l =
    (goal.iterator-loop-field).can_next l.field-iterator × (goal.iterator-loop-field).is_finite l.field-iterator
    × (l.words.items ++ field_words l.field-iterator ≡ id_words l.fn.id ++ field_words l.fn.fields)
