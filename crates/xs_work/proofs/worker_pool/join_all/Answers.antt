use Rattle.std.proofs.Common.{rules, arith, ◌≡◌, List, [], ◌∷◌, ◌++◌, ◌∙◌, sym, ap, subst, length, length-append, map}
use Rattle.std.specs.Prelude.{is_err, false}
use Rattle.std.proofs.lemmas.List.{nil_from_length}
use Rattle.std.specs.Vec.Iter.{into_iter_items}
use Rattle.xs_desk.specs.Callers.{Caller}
use Rattle.xs_desk.specs.KeptRings.{KeepSides}
use Rattle.xs_work.specs.Gates.{GateTrace}
use Rattle.xs_work.specs.Workers.{WorkEach}
use Rattle.xs_work.proofs.WorkerEnds.{sides-none, sides-more, work-none, joined-more, none-mapped, one-mapped, all-mapped}
use Rattle.xs_work.proofs.worker_pool.join_all.Goals as goal

pub loop-one-preserved : goal.loop-one-preserved
loop-one-preserved g c =
    let before = c.loop-one.invariant in
    let trace = g.G.Gate.trace in
    let ends = c.loop-one.ended.items in
    let gates = c.loop-one.gates.items in
    let one = c.in-Some.one in
    let client : Caller = one.promise.0.value in
    let first : GateTrace = trace one.promise.1.value in
    let end : Caller = c.join-worked.result.ended in
    let gate = c.join-worked.result.gate in
    let pushed = rw c.if-is_err.ensures.negation at c.push.ensures.items in
    let kept = rw c.if-is_err-2.ensures.negation at c.push-in-loop-one.ensures.items in
    let rest : into_iter_items c.loop-one.one-iterator ≡ one ∷ into_iter_items c.next.new.self = search rules in
    record {
      room = omega arith;
      gate_room = omega arith;
      count = omega (arith, before.count, ap length pushed, length-append ends (end ∷ []), ap length rest);
      len = omega (arith, before.len, ap length rest, c.in-Some.ensures.steps.1);
      gates_count = omega (arith, before.gates_count, ap length pushed, length-append ends (end ∷ []), ap length kept, length-append gates (gate ∷ []));
      done = before.done ++ client ∷ [];
      before = before.before ++ first ∷ [];
      done_count = omega (arith, length-append before.done (client ∷ []), before.done_count, ap length pushed, length-append ends (end ∷ []));
      before_count = omega (arith, length-append before.before (first ∷ []), before.before_count, ap length pushed, length-append ends (end ∷ []));
      sides = subst (λ (es : List Caller). KeepSides (before.done ++ client ∷ []) es) (sym pushed) (sides-more before.done ends client end before.done_count before.sides c.join-worked.ensures.0);
      work =
          joined-more trace c.loop-one.outcome c.join-worked.result.outcome c.and-outcome.result before.done ends c.push.new.self.items before.before gates c.push-in-loop-one.new.self.items client end first gate
          before.done_count before.before_count before.gates_count pushed kept c.and-outcome.ensures before.work c.join-worked.ensures.1;
      done_are = one-mapped _ before.done one _ _ _ before.done_are rest;
      before_are = one-mapped _ before.before one _ _ _ before.before_are rest;
    }

pub loop-one-init : goal.loop-one-init
loop-one-init g c =
    let trace = g.G.Gate.trace in
    let none : c.args.ended.now.items ≡ [] = c.requires.room.0 in
    let none-there : c.args.gates.now.items ≡ [] = c.requires.gate_room.0 in
    let all : into_iter_items c.into_iter-one-iterator.result ≡ c.args.started.items = search rules in
    record {
      room = c.requires.room.1;
      gate_room = c.requires.gate_room.1;
      count = omega (arith, ap length none, ap length all);
      len = search rules;
      gates_count = omega (arith, ap length none, ap length none-there);
      done = [];
      before = [];
      done_count = omega (arith, ap length none);
      before_count = omega (arith, ap length none);
      sides = subst (λ (ends : List Caller). KeepSides [] ends) (sym none) sides-none;
      work =
          subst (λ (ends : List Caller). WorkEach false [] ends [] (map trace c.args.gates.now.items)) (sym none)
          (subst (λ (now : List GateTrace). WorkEach false [] [] [] now) (sym (ap (map trace) none-there)) work-none);
      done_are = none-mapped _ _ _ all;
      before_are = none-mapped _ _ _ all;
    }

pub returns-clause-work : goal.returns-clause-work
returns-clause-work g c =
    let inv = c.loop-one.invariant in
    let trace = g.G.Gate.trace in
    let none : into_iter_items c.loop-one.one-iterator ≡ [] = nil_from_length _ (sym inv.len ∙ c.in-None.ensures.steps.0) in
    let done = all-mapped _ inv.done _ _ inv.done_are none in
    let before = all-mapped _ inv.before _ _ inv.before_are none in
    subst (λ (firsts : List Caller). WorkEach (is_err c.loop-one.outcome) firsts c.loop-one.ended.items (map (λ s. trace s.promise.1.value) c.args.started.items) (map trace c.loop-one.gates.items)) done
    (subst (λ (gs : List GateTrace). WorkEach (is_err c.loop-one.outcome) inv.done c.loop-one.ended.items gs (map trace c.loop-one.gates.items)) before inv.work)
