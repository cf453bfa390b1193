use Rattle.std.proofs.Common.{◌<◌, ◌/◌, sym, ap, ◌∙◌, arith}
use Rattle.std.specs.Int.Bits.{bit_xor}
use Rattle.xs_tape.specs.Checksum.{shifts}
use Rattle.xs_tape.proofs.Remainders.{with_byte-split}
use Rattle.xs_tape.proofs.checksum.with_byte.Goals as goal

pub returns : goal.returns
returns c =
    let small : c.args.byte < 256 = omega arith in
    let rest = c.args.remainder / 256 in
    ap (λ r. bit_xor r rest) c.remainder_of.ensures ∙ ap (λ low. bit_xor (shifts 8 (bit_xor low c.args.byte)) rest) c.low_byte-low.ensures
    ∙ sym (with_byte-split c.args.remainder c.args.byte small)
