use Rattle.std.proofs.Common.{◌≡◌, length, map, take}
use Rattle.xs_resp.specs.Grammar.{sent_words}
use Rattle.xs_tape.specs.Escape.{escaped}
use Rattle.xs_tape.proofs.size.words_len.Given as goal

abbrev pub invariant-loop-word : goal.invariant-loop-word
invariant-loop-word l = l.size ≡ length (sent_words (map escaped (take l.word-index l.words)))
