use Rattle.std.proofs.Common.{◌∙◌, sym}
use Rattle.xs_desk.proofs.Openings.{no_calls_of_new}
use Rattle.xs_desk.proofs.opening.open_desk.Goals as goal

pub new-requires-5-clause-calls : goal.new-requires-5-clause-calls
new-requires-5-clause-calls g c =
    no_calls_of_new c.args.depth c.in_ok-lane_ends.lane_ends.items c.in_ok-lane_ends.clients.items c.leave_free.new.self (g.J.Journal.start c.args.journal) (c.requires.start ∙ sym c.leave_free.ensures) c.in_ok-lane_ends.ensures.0
