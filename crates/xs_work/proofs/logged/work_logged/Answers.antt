use denote.Param.Send.{sendable}
use Rattle.std.proofs.Common.{rules, ◌≡◌, ◌∙◌, length}
use Rattle.std.proofs.Crossing.{crosses}
use Rattle.xs_work.proofs.WorkerEnds.{new-count}
use Rattle.xs_work.proofs.logged.work_logged.Goals as goal

pub run_to_end_of_keeper-requires-send-J : goal.run_to_end_of_keeper-requires-send-J
run_to_end_of_keeper-requires-send-J g c κs within =
    let log = c.type_bounds.send-L in
    search (sendable, crosses) depth 30

pub make_pool-requires-clause-count : goal.make_pool-requires-clause-count
make_pool-requires-clause-count g c κs within =
    let new = c.in-Ok.ensures.new in
    let gates : c.len.result ≡ length c.args.gates.items = search rules in
    new-count 0 c.args.depth c.in-Ok.made.0.lanes c.in-Ok.made.1.items new.0 ∙ (new.1 ∙ gates)
