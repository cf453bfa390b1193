use Rattle.std.proofs.Common.{length, take, get_or, ap, ◌∙◌, arith, length-append}
use Rattle.xs_tape.specs.Escape.{escape, escaped}
use Rattle.xs_tape.proofs.Walks.{escaped_more}
use Rattle.xs_tape.proofs.escape.counted_len.Goals as goal

pub loop-byte-preserved : goal.loop-byte-preserved
loop-byte-preserved c =
    let word = c.args.word.now in
    let i = c.loop-byte.byte-index in
    let more = ap length (escaped_more word i c.loop-byte-test.true) ∙ length-append (escaped (take i word)) (escape (get_or word i 0)) in
    (omega (arith, more, c.loop-byte.invariant.0, c.escape_len-size.ensures.value), omega (arith, c.loop-byte.invariant.1, c.escape_len-size.ensures.small))
