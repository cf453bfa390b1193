use Rattle.std.proofs.Common.{◌+◌, [], take, drop, map, sym, ◌∙◌, subst}
use Rattle.std.proofs.lemmas.List.{get_or_default}
use Rattle.xs_resp.specs.Grammar.{sent_word, sent_words}
use Rattle.xs_tape.specs.Escape.{escaped}
use Rattle.xs_tape.specs.Writing.{Puts}
use Rattle.xs_tape.proofs.Puts.{puts_broken, puts_join}
use Rattle.xs_tape.proofs.Walks.{sent_more, sent_split}
use Rattle.xs_tape.proofs.log_writer.LogWriter.put_words.Goals as goal

pub returns-in_err-put_word-clause-puts : goal.returns-in_err-put_word-clause-puts
returns-in_err-put_word-clause-puts g c =
    let words = c.args.words.now in
    let i = c.loop-word.word-index in
    let old = c.args.self.now in
    let new = c.put_word.new.self in
    let word = c.as_slice.ensures ∙ c.word-item.is ∙ get_or_default words i c.word-item.result [] c.loop-word-test.true in
    let one = subst (λ w. Puts c.loop-word.self new (sent_word (escaped w))) word c.in_err-put_word.ensures.puts in
    let more = puts_join old c.loop-word.self new (sent_words (map escaped (take i words))) _ c.loop-word.invariant.0 one in
    let front = subst (λ t. Puts old new t) (sym (sent_more words i c.loop-word-test.true)) more in
    subst (λ t. Puts old new t) (sent_split words (i + 1)) (puts_broken old new (sent_words (map escaped (take (i + 1) words))) (sent_words (map escaped (drop (i + 1) words))) c.in_err-put_word.ensures.fault front)
