use Rattle.xs_desk.specs.LaneEnds.{desk_of}
use Rattle.xs_desk.proofs.ServedCalls.{calls-have-places}
use Rattle.xs_desk.proofs.Durables.{turns-of, turn-keeps, turn-goes-on}
use Rattle.xs_desk.proofs.Keeps.{turn-keeps-rings}
use Rattle.xs_desk.proofs.keeper.Keeper.turn.Goals as goal

pub serve_each-served-requires : goal.serve_each-served-requires
serve_each-served-requires g c =
    calls-have-places c.self.invariant.0 (desk_of c.self.inside.lane_ends.items c.self.inside.keyspace c.self.inside.place (g.J.Journal.start c.self.inside.journal)) c.self.invariant.1

pub invariant_of-self : goal.invariant_of-self
invariant_of-self g c = turn-keeps g.J.Journal.has _ _ _ _ _ _ _ _ _ _ _ _ _ _ _ _ c.serve_each-served.ensures.start c.self.invariant c.serve_each-served.ensures.turned

pub returns-clause-calls : goal.returns-clause-calls
returns-clause-calls g c = rw (← c.self.view_is) (turn-goes-on g.J.Journal.has _ _ _ _ _ _ _ _ _ _ _ _ _ _ c.serve_each-served.ensures.start c.self.invariant c.in-Ok.ensures.turned)

pub returns-clause-rings : goal.returns-clause-rings
returns-clause-rings g c = rw (← c.self.view_is) (turn-keeps-rings _ _ _ _ _ _ _ _ (turns-of g.J.Journal.has _ _ _ _ _ _ _ _ _ _ _ _ c.serve_each-served.ensures.turned))

pub invariant_of-self-2 : goal.invariant_of-self-2
invariant_of-self-2 g c = turn-keeps g.J.Journal.has _ _ _ _ _ _ _ _ _ _ _ _ _ _ _ _ c.serve_each-served.ensures.start c.self.invariant c.serve_each-served.ensures.turned

pub returns-in_default-clause-calls : goal.returns-in_default-clause-calls
returns-in_default-clause-calls g c =
    let turned = c.in_default.ensures.turned in
    rw (← c.self.view_is) (turned.0, turn-goes-on g.J.Journal.has _ _ _ _ _ _ _ _ _ _ _ _ _ _ c.serve_each-served.ensures.start c.self.invariant turned.1, turned.2)

pub returns-in_default-clause-rings : goal.returns-in_default-clause-rings
returns-in_default-clause-rings g c = rw (← c.self.view_is) (turn-keeps-rings _ _ _ _ _ _ _ _ (turns-of g.J.Journal.has _ _ _ _ _ _ _ _ _ _ _ _ c.serve_each-served.ensures.turned))
