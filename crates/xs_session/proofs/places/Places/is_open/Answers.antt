use Rattle.xs_session.specs.Places.{has_open}
use Rattle.std.proofs.Common.{ap, ◌∙◌, not}
use Rattle.xs_session.proofs.Placing.{is-open}
use Rattle.xs_session.proofs.places.Places.is_open.Goals as goal

pub returns-clause-open : goal.returns-clause-open
returns-clause-open c =
    is-open c.self.inside.ready.items c.self.inside.behind.items _ _ c.self.inside.behind.ok.0 c.self.invariant.3 (ap not c.is_empty.ensures) ∙ ap has_open c.self.view_is
