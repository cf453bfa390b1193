use Rattle.xs_desk.proofs.Keeps.{ends-kept, ends-turned}
use Rattle.xs_testing.proofs.trial.Trial.together.Goals as goal

pub invariant_of-result : goal.invariant_of-result
invariant_of-result g c =
    let old = c.self.inside in
    let new = c.in_ok-keeper in
    ends-turned old.keeper new.keeper new.clients.items
    (ends-kept old.keeper.lanes old.clients.items new.clients.items c.self.invariant new.ensures.clients) new.ensures.keeper
