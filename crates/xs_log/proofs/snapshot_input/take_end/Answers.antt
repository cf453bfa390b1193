use Rattle.std.proofs.Common.{ap, sym, ◌∙◌}
use Rattle.std.proofs.lemmas.Bool.{false≢true}
use Rattle.std.specs.Prelude.{Ok}
use Rattle.xs_log.proofs.SnapshotInput.{none_behind, none_held, all_read}
use Rattle.xs_log.proofs.snapshot_input.take_end.Goals as goal

pub returns-in-Ok-true-clause-err : goal.returns-in-Ok-true-clause-err
returns-in-Ok-true-clause-err g c = λ first done taken gives.
    none_behind first (g.R.Source.rest c.await_request.new.source) c.await_request.new.requests done (c.in-Ok-true.ensures.ok first done taken) gives (c.await_request.ensures.yes (c.in-Ok-true.is ∙ ap (λ b. Ok b) c.in-Ok-true.field-0-test))

pub returns-in-Err-clause-err : goal.returns-in-Err-clause-err
returns-in-Err-clause-err g c = λ first done taken gives. c.in-Err.ensures.err first done done taken gives

pub returns-then-partial-clause-err : goal.returns-then-partial-clause-err
returns-then-partial-clause-err g c = λ first done taken gives.
    let end = c.await_request.ensures.no (c.in-Ok-false.is ∙ ap (λ b. Ok b) c.in-Ok-false.field-0-test) in
    let none = none_held first (g.R.Source.rest c.await_request.new.source) c.await_request.new.requests done (end.1).0 (c.in-Ok-false.ensures.ok first done taken) gives end.0 (end.1).1 (end.1).2 in
    false≢true (sym none ∙ sym c.partial.ensures ∙ c.if-partial.true)

pub returns-clause-ok : goal.returns-clause-ok
returns-clause-ok g c = λ first done taken.
    let end = c.await_request.ensures.no (c.in-Ok-false.is ∙ ap (λ b. Ok b) c.in-Ok-false.field-0-test) in
    (all_read first (g.R.Source.rest c.await_request.new.source) c.await_request.new.requests done (c.in-Ok-false.ensures.ok first done taken) (sym c.partial.ensures ∙ c.if-partial.false), end.0)
