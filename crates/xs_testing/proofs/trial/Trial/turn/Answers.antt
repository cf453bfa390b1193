use Rattle.xs_desk.proofs.Keeps.{ends-turned}
use Rattle.xs_testing.proofs.trial.Trial.turn.Goals as goal

pub invariant_of-self : goal.invariant_of-self
invariant_of-self g c = ends-turned c.self.inside.keeper c.turn.new.self c.self.inside.clients.items c.self.invariant c.turn.ensures.rings
