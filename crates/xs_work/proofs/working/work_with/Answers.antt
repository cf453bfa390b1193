use Rattle.std.proofs.Common.{rules, arith, ◌≡◌, List, ◌∙◌, ap, sym, subst, length, map}
use Rattle.std.specs.Prelude.{is_err}
use Rattle.std.proofs.lemmas.List.{length-map}
use Rattle.xs_desk.specs.Callers.{Caller}
use Rattle.xs_desk.specs.KeptRings.{KeepSides}
use Rattle.xs_desk.proofs.Keeps.{ends-new, ends-turned, ends-kept, keeps-count}
use Rattle.xs_work.proofs.WorkerEnds.{all-there, new-count, served-pool}
use Rattle.xs_work.proofs.working.work_with.Goals as goal

pub conclude-requires-clause-ends : goal.conclude-requires-clause-ends
conclude-requires-clause-ends g c κs within =
    let new = c.in_ok-keeper.ensures.new.0 in
    let keeper = c.in_ok-keeper.keeper in
    let clients = c.in_ok-keeper.clients.items in
    let done = c.in-Some.done in
    let sides = subst (λ (cs : List Caller). KeepSides cs done.ended.items) c.in-Ok.ensures.workers c.in-Some.ensures.sides in
    ends-kept done.keeper.lanes clients done.ended.items (ends-turned keeper done.keeper clients (ends-new c.args.depth keeper.lanes clients new) c.in-Some.ensures.keeper) sides

pub conclude-requires-clause-all : goal.conclude-requires-clause-all
conclude-requires-clause-all g c κs within = λ k below.
    let new = c.in_ok-keeper.ensures.new.0 in
    let keeper = c.in_ok-keeper.keeper in
    let clients = c.in_ok-keeper.clients.items in
    let done = c.in-Some.done in
    let sides = subst (λ (cs : List Caller). KeepSides cs done.ended.items) c.in-Ok.ensures.workers c.in-Some.ensures.sides in
    let count : length done.ended.items ≡ length clients = c.in-Some.ensures.count ∙ (sym (length-map c.in-Ok.pool.workers.items (λ w. w.client)) ∙ ap length c.in-Ok.ensures.workers) in
    all-there c.args.depth keeper.lanes clients done.ended.items new sides count k (omega (arith, below, keeps-count keeper done.keeper c.in-Some.ensures.keeper))

pub make_pool-requires-clause-count : goal.make_pool-requires-clause-count
make_pool-requires-clause-count g c κs within =
    let new = c.in_ok-keeper.ensures.new in
    let gates : c.len.result ≡ length c.args.gates.items = search rules in
    new-count 0 c.args.depth c.in_ok-keeper.keeper.lanes c.in_ok-keeper.clients.items new.0 ∙ (new.1 ∙ gates)

pub returns : goal.returns
returns g c =
    let new = c.in_ok-keeper.ensures.new in
    let keeper = c.in_ok-keeper.keeper in
    let done = c.in-Some.done in
    let pool = c.in-Ok.pool in
    let trace = g.G.Gate.trace in
    let gates : c.len.result ≡ length c.args.gates.items = search rules in
    let lanes : length keeper.lanes ≡ length c.args.gates.items = new.1 ∙ gates in
    let served =
    served-pool (λ w. w.client) (λ w. w.gate) trace (is_err done.outcome) c.args.depth keeper.lanes c.in_ok-keeper.clients.items done.ended.items c.args.gates.items done.gates.items pool.workers.items new.0 lanes
    c.in-Ok.ensures.workers c.in-Ok.ensures.served c.in-Some.ensures.count c.in-Some.ensures.all c.in-Some.ensures.work in
    let count = keeps-count keeper done.keeper c.in-Some.ensures.keeper ∙ (lanes ∙ sym (length-map c.args.gates.items trace)) in
    record {
      closed = c.conclude.ensures.closed (map trace c.args.gates.items) count served;
      stopped = c.conclude.ensures.stopped (map trace c.args.gates.items) count served;
      reported = search rules;
      fault = search rules;
    }
