use Rattle.std.proofs.Common.{rules, ◌≡◌, true, List, ◌∙◌, subst, map}
use Rattle.std.specs.Prelude.{is_err}
use Rattle.xs_desk.specs.Callers.{Caller}
use Rattle.xs_desk.specs.KeptRings.{KeepSides}
use Rattle.xs_work.specs.Gates.{GateTrace}
use Rattle.xs_work.specs.Workers.{WorkEach}
use Rattle.xs_work.proofs.WorkerEnds.{same-count, same-traces}
use Rattle.xs_work.proofs.working.run_all.Goals as goal

pub returns-clause-sides : goal.returns-clause-sides
returns-clause-sides g c =
    let all : c.in_ok-threads.threads.all ≡ true = search rules in
    subst (λ (clients : List Caller). KeepSides clients c.join_all-outcome.new.ended.items) (c.in_ok-threads.ensures.all all) c.join_all-outcome.ensures.sides

pub returns-clause-count : goal.returns-clause-count
returns-clause-count g c =
    let all : c.in_ok-threads.threads.all ≡ true = search rules in
    c.join_all-outcome.ensures.count ∙ same-count _ _ _ _ (c.in_ok-threads.ensures.all all)

pub returns-clause-all : goal.returns-clause-all
returns-clause-all g c =
    let all : c.in_ok-threads.threads.all ≡ true = search rules in
    c.join_all-outcome.ensures.gates ∙ same-count _ _ _ _ (c.in_ok-threads.ensures.all all)

pub returns-clause-work : goal.returns-clause-work
returns-clause-work g c =
    let all : c.in_ok-threads.threads.all ≡ true = search rules in
    let joined = c.join_all-outcome in
    let trace = g.G.Gate.trace in
    let workers = c.args.pool.workers.items in
    let later = map trace joined.new.gates.items in
    let ends = joined.new.ended.items in
    subst (λ (firsts : List Caller). WorkEach (is_err joined.result) firsts ends (map (λ w. trace w.gate) workers) later) (c.in_ok-threads.ensures.all all)
    (subst (λ (before : List GateTrace). WorkEach (is_err joined.result) (map (λ s. s.promise.0.value) c.in_ok-threads.threads.workers.items) ends before later)
    (same-traces trace _ _ c.in_ok-threads.threads.workers.items workers (c.in_ok-threads.ensures.gates all)) joined.ensures.work)
