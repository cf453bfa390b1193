use Rattle.std.proofs.Common.{◌<◌, ◌^◌, [], length, sym, ap, ◌∙◌, subst, arith}
use Rattle.std.proofs.lemmas.List.{get_or_default}
use Rattle.xs_resp.specs.Grammar.{sent_word}
use Rattle.xs_tape.specs.Escape.{escaped}
use Rattle.xs_tape.proofs.Counts.{sent_within}
use Rattle.xs_tape.proofs.size.words_len.Goals as goal

pub sent_len-size-requires : goal.sent_len-size-requires
sent_len-size-requires c =
    let words = c.args.words.now in
    let i = c.loop-word.word-index in
    let word = c.as_slice.ensures ∙ c.word-item.is ∙ get_or_default words i c.word-item.result [] c.loop-word-test.true in
    subst (λ w. length (sent_word (escaped w)) < 2 ^ 64) (sym word) (omega (arith, sent_within words i c.loop-word-test.true, c.requires))

pub overflow_add-size : goal.overflow_add-size
overflow_add-size c =
    let words = c.args.words.now in
    let i = c.loop-word.word-index in
    let word = c.as_slice.ensures ∙ c.word-item.is ∙ get_or_default words i c.word-item.result [] c.loop-word-test.true in
    omega (arith, sent_within words i c.loop-word-test.true, c.requires, c.loop-word.invariant, c.sent_len-size.ensures, ap (λ w. length (sent_word (escaped w))) word)
