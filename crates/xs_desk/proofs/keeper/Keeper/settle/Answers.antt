use Rattle.xs_desk.proofs.Durables.{settle-keeps}
use Rattle.xs_desk.proofs.keeper.Keeper.settle.Goals as goal

pub invariant_of-self-2 : goal.invariant_of-self-2
invariant_of-self-2 g c =
    settle-keeps g.J.Journal.has c.self.inside.lane_ends.items c.release_each.new.lane_ends.items c.self.inside.keyspace c.self.inside.place _ _ c.self.inside.journal c.keep.new.self
    c.keep.ensures.start c.release_each.ensures.lanes c.in_default.ensures.kept c.self.invariant
