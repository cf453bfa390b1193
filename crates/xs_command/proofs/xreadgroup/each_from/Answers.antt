use Rattle.std.proofs.Common.{◌≡◌, ◌∷◌, [], Ok, rules, sym, ap, ◌∙◌}
use Rattle.std.proofs.lemmas.List.{nil_from_length}
use Rattle.std.proofs.lemmas.Result.{err_from_is_err_and}
use Rattle.std.specs.Vec.Iter.{into_iter_items}
use Rattle.xs_command.specs.Streams.{each_from}
use Rattle.xs_command.proofs.StreamSteps.{with_front, goes_on, fails, ends}
use Rattle.xs_command.proofs.xreadgroup.each_from.Goals as goal

pub returns-in_err-from : goal.returns-in_err-from
returns-in_err-from c =
    let reads = c.loop-key.reads.items in
    let left = into_iter_items c.next.new.self in
    let rest : into_iter_items c.loop-key.key-iterator ≡ c.in-Some.key ∷ left = search rules in
    let p = err_from_is_err_and c.from_residual-in_err-from.result c.from_residual-in_err-from.ensures.1 in
    rw (p.1, p.2) (sym c.loop-key.invariant.3
    ∙ ap (λ keys. with_front reads (each_from keys c.loop-key.starts)) rest
    ∙ fails reads c.in-Some.key left c.loop-key.starts c.in_err-from.field-0.0 (sym c.in_err-from.ensures))

pub loop-key-preserved : goal.loop-key-preserved
loop-key-preserved c =
    let reads = c.loop-key.reads.items in
    let left = into_iter_items c.next.new.self in
    let rest : into_iter_items c.loop-key.key-iterator ≡ c.in-Some.key ∷ left = search rules in
    let next = goes_on reads c.in-Some.key left c.loop-key.starts c.in_ok-from.from c.in_ok-from.more_starts (sym c.in_ok-from.ensures) in
    (tt, tt, search rules, rw c.in_ok-push.ensures.items (next ∙ ap (λ keys. with_front reads (each_from keys c.loop-key.starts)) (sym rest) ∙ c.loop-key.invariant.3))

pub returns : goal.returns
returns c =
    let reads = c.loop-key.reads.items in
    let none : into_iter_items c.loop-key.key-iterator ≡ [] = nil_from_length _ (sym c.loop-key.invariant.2 ∙ c.in-None.ensures.steps.0) in
    sym c.loop-key.invariant.3
    ∙ ap (λ keys. with_front reads (each_from keys c.loop-key.starts)) none
    ∙ ends reads c.loop-key.starts
    ∙ ap Ok (sym c.many.ensures)
