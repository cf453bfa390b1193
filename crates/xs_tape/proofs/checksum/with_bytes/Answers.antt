use Rattle.std.proofs.Common.{get_or, sym, ap, ◌∙◌}
use Rattle.std.proofs.lemmas.List.Sums.{fold_more}
use Rattle.xs_tape.specs.Checksum.{with_byte}
use Rattle.xs_tape.proofs.checksum.with_bytes.Goals as goal

pub loop-byte-preserved : goal.loop-byte-preserved
loop-byte-preserved c =
    let i = c.loop-byte.byte-index in
    c.with_byte-so_far.ensures ∙ ap (λ r. with_byte r (get_or c.args.bytes.now i 0)) c.loop-byte.invariant ∙ sym (fold_more with_byte c.args.remainder c.args.bytes.now i 0 c.loop-byte-test.true)
