use Rattle.std.specs.Prelude.{[]}
use Rattle.xs_desk.proofs.Durables.{durable-none}
use Rattle.xs_desk.proofs.keeper.Keeper.new.Goals as goal

pub invariant_of-result : goal.invariant_of-result
invariant_of-result g c = (
  [],
  c.requires.calls,
  durable-none g.J.Journal.has c.args.lane_ends.items c.args.keyspace 0 (g.J.Journal.start c.args.journal) c.args.journal c.requires.calls c.requires.start c.requires.noted,
)
