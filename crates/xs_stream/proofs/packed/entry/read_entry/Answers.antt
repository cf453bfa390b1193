use Rattle.std.proofs.Common.{arith}
use Rattle.xs_stream.proofs.PackedCodes.{short-id}
use Rattle.xs_stream.proofs.packed.entry.read_entry.Goals as goal

pub returns-then-from-rest-clause-id : goal.returns-then-from-rest-clause-id
returns-then-from-rest-clause-id c =
    short-id c.args.base c.args.bytes.now c.from-then-from-rest-2.result c.from-seq.result (omega (arith, c.in-len3-up.len_at_least)) c.from-then-from-rest-2.ensures c.from-seq.ensures c.if-ms-lt253.true c.if-seq-lt253.true
