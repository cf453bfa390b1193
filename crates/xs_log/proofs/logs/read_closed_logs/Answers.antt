use Rattle.std.proofs.Common.{rules, ◌≡◌, refl, ℕ, Some, List, [], ◌∷◌, ◌++◌, ◌+◌, length, length-append, sym, ap, ◌∙◌, subst, arith}
use Rattle.std.proofs.lemmas.List.{append-nil, append_assoc, nil_from_length}
use Rattle.std.specs.Vec.Iter.{into_iter_items}
use Rattle.xs_io.specs.Passing.{known_by}
use Rattle.xs_replay.specs.After.{contents_after, moment_after}
use Rattle.xs_log.specs.Reading.{IsClosedLog}
use Rattle.xs_log.specs.Logs.{GiveClosedLogs, MayGiveClosedLogs}
use Rattle.xs_log.proofs.Crashed.{read-whole}
use Rattle.xs_log.proofs.LogsInOrder.{contents-joined, moments-joined, may-more, give-at}
use Rattle.xs_log.proofs.logs.read_closed_logs.Goals as goal

pub loop-log-init : goal.loop-log-init
loop-log-init g c = (([], refl, refl, refl), omega arith, search rules, search rules)

pub returns-in-Err-clause-err : goal.returns-in-Err-clause-err
returns-in-Err-clause-err g c = λ events give.
    let rest : into_iter_items c.loop-log.log-iterator ≡ c.in-Some.log ∷ into_iter_items c.next.new.self = search rules in
    let all = sym c.loop-log.invariant.2 ∙ ap (λ logs. c.loop-log.yielded ++ logs) rest in
    let at = give-at (known_by g.R.Source.rest) c.args.first c.loop-log.yielded c.in-Some.log (into_iter_items c.next.new.self) events (subst (λ logs. GiveClosedLogs (known_by g.R.Source.rest) c.args.first logs events) all give) in
    c.in-Err.ensures.err at.0 at.1 at.2 (subst (λ n. IsClosedLog n at.0 at.1) (sym c.loop-log.invariant.1) at.3)

pub loop-log-preserved : goal.loop-log-preserved
loop-log-preserved g c =
    let so_far = c.loop-log.invariant.0 in
    let read = c.in-Ok.ensures.ok in
    let rest : into_iter_items c.loop-log.log-iterator ≡ c.in-Some.log ∷ into_iter_items c.next.new.self = search rules in
    let number = c.loop-log.invariant.1 in
    let passing = g.R.Source.rest in
    let known = known_by passing in
    let is : (bytes : List ℕ) → known c.in-Some.log ≡ Some bytes → IsClosedLog (c.args.first + length c.loop-log.yielded) bytes read.1 = λ bytes told. subst (λ n. IsClosedLog n bytes read.1) number (subst (λ b. IsClosedLog c.loop-log.number b read.1) (read-whole (passing c.in-Some.log) bytes (passing c.read_closed_log.new.log) read.0 told read.2 read.3) read.4) in
    let content = read.5 ∙ ap (λ k. contents_after k read.1) so_far.2 ∙ sym (contents-joined c.args.recovered.now.keyspace so_far.0 read.1) in
    let last = read.6 ∙ ap (λ m. moment_after m read.1) so_far.3 ∙ sym (moments-joined c.args.recovered.now.last so_far.0 read.1) in
    let next : c.in-Some-checked_add.next ≡ c.loop-log.number + 1 = search rules in
    let all = append_assoc c.loop-log.yielded (c.in-Some.log ∷ []) (into_iter_items c.next.new.self) ∙ ap (λ logs. c.loop-log.yielded ++ logs) (sym rest) ∙ c.loop-log.invariant.2 in (
      (so_far.0 ++ read.1, may-more known c.args.first c.loop-log.yielded c.in-Some.log so_far.0 read.1 so_far.1 is, content, last),
      omega (arith, next, number, length-append c.loop-log.yielded (c.in-Some.log ∷ [])),
      all,
      search rules,
    )

pub returns-clause-ok : goal.returns-clause-ok
returns-clause-ok g c =
    let so_far = c.loop-log.invariant.0 in
    let none : into_iter_items c.loop-log.log-iterator ≡ [] = nil_from_length _ (sym c.loop-log.invariant.3 ∙ c.in-None.ensures.steps.0) in
    let all = sym (append-nil c.loop-log.yielded) ∙ ap (λ logs. c.loop-log.yielded ++ logs) (sym none) ∙ c.loop-log.invariant.2 in (
      (so_far.0, subst (λ logs. MayGiveClosedLogs (known_by g.R.Source.rest) c.args.first logs so_far.0) all so_far.1, so_far.2, so_far.3),
      c.loop-log.invariant.1 ∙ ap (λ logs. c.args.first + length logs) all,
    )
