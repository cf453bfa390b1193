use Rattle.std.proofs.Common.{◌≡◌, false, map, take}
use Rattle.xs_resp.specs.Grammar.{sent_words}
use Rattle.xs_tape.specs.Escape.{escaped}
use Rattle.xs_tape.specs.Writing.{Puts}
use Rattle.xs_tape.proofs.log_writer.LogWriter.put_words.Given as goal

abbrev pub invariant-loop-word : goal.invariant-loop-word
invariant-loop-word g l = Puts l.fn.self l.self (sent_words (map escaped (take l.word-index l.words))) × (l.self.broken ≡ false)
