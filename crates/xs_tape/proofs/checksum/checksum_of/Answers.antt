use Rattle.std.proofs.Common.{[], fold, ap, ◌∙◌, arith}
use Rattle.std.proofs.lemmas.List.{get_or_default}
use Rattle.xs_tape.specs.Checksum.{with_byte}
use Rattle.xs_tape.proofs.Remainders.{words_more, words_done}
use Rattle.xs_tape.proofs.checksum.checksum_of.Goals as goal

pub loop-word-preserved : goal.loop-word-preserved
loop-word-preserved c =
    let rest = c.args.rest.now in
    let i = c.loop-word.word-index in
    let word = c.as_slice.ensures ∙ c.word-item.is ∙ get_or_default rest i c.word-item.result [] c.loop-word-test.true in
    words_more c.args.first.now rest i c.loop-word.so_far c.with_bytes-so_far-in-loop-word.result c.loop-word-test.true c.loop-word.invariant
    (c.with_bytes-so_far-in-loop-word.ensures ∙ ap (fold with_byte c.loop-word.so_far) word)

pub returns : goal.returns
returns c = words_done c.args.first.now c.args.rest.now c.loop-word.word-index c.loop-word.so_far c.loop-word-test.false (omega arith) c.loop-word.invariant
