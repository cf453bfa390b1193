use Rattle.std.proofs.Common.{sym, ◌∙◌, ap, ◌+◌, ◌%◌, arith}
use Rattle.xs_stream.proofs.PackedCodes.{first_ms-bytes}
use Rattle.xs_stream.proofs.packed.entry.read_ms.Goals as goal

pub returns-clause-number : goal.returns-clause-number
returns-clause-number c =
    ap (λ n. (c.args.base + n) % 18446744073709551616) c.read_wide_number-above.ensures.number ∙ sym (first_ms-bytes c.args.base c.args.bytes.now (λ k. omega (arith, c.type_inv.bytes k)))
