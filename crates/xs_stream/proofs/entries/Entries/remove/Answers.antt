use Rattle.std.proofs.Common.{length, ap, arith}
use Rattle.xs_stream.specs.Blocks.{all_of}
use Rattle.xs_stream.proofs.Greatest.{removed-length, same-bit}
use Rattle.xs_stream.proofs.entries.Entries.remove.Goals as goal

pub returns-then-there-clause-there : goal.returns-then-there-clause-there
returns-then-there-clause-there c =
    same-bit _ _ (omega (arith, removed-length c.args.id (all_of c.args.self.now), ap length c.take-there.ensures.entries, c.take-there.ensures.count))

pub returns-else-there-clause-there : goal.returns-else-there-clause-there
returns-else-there-clause-there c =
    same-bit _ _ (omega (arith, removed-length c.args.id (all_of c.args.self.now), ap length c.take-there.ensures.entries, c.take-there.ensures.count))
