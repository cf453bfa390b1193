use Rattle.std.proofs.Common.{◌≡◌, ◌++◌, length}
use Rattle.std.specs.Option.{option_map}
use Rattle.xs_replay.specs.PieceReading.{fields_of_words}
use Rattle.xs_log.proofs.piece_words.fields_of.Given as goal

-- the fields so far, and those that the words left spell
abbrev pub invariant-loop-name : goal.invariant-loop-name
invariant-loop-name l = option_map (λ fields. l.fields.items ++ fields) (fields_of_words l.left) ≡ fields_of_words l.words

abbrev pub decreases-loop-name : goal.decreases-loop-name
decreases-loop-name l = length l.left
