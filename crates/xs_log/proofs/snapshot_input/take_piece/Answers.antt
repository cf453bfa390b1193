use Rattle.std.proofs.Common.{◌∷◌, ◌++◌, ap, sym, ◌∙◌, subst}
use Rattle.std.specs.Prelude.{Ok, Err}
use Rattle.xs_log.specs.SnapshotReading.{MayStandBehind}
use Rattle.xs_log.proofs.Steps.{front_size}
use Rattle.xs_log.proofs.SnapshotInput.{all_taken, not_all, next_front, front_is, front_taken, record_taken}
use Rattle.xs_log.proofs.snapshot_input.take_piece.Goals as goal

pub returns-in-Ok-false-clause-err : goal.returns-in-Ok-false-clause-err
returns-in-Ok-false-clause-err g c = λ first done others words taken gives may.
    let end = c.await_request.ensures.no (c.in-Ok-false.is ∙ ap (λ b. Ok b) c.in-Ok-false.field-0-test) in
    let all = all_taken first (g.R.Source.rest c.await_request.new.source) c.await_request.new.requests done (done ++ words ∷ others) (end.1).0 (c.in-Ok-false.ensures.ok first done taken) gives end.0 (end.1).1 (end.1).2 in
    not_all done others words all.0

pub returns-in-Err-clause-err : goal.returns-in-Err-clause-err
returns-in-Err-clause-err g c = λ first done others words taken gives may. c.in-Err.ensures.err first done (done ++ words ∷ others) taken gives

pub read_piece-requires : goal.read_piece-requires
read_piece-requires g c =
    let held = c.await_request.new.requests in
    let front = next_front held (c.await_request.ensures.yes (c.in-Ok-true.is ∙ ap (λ b. Ok b) c.in-Ok-true.field-0-test)) in
    front_size held front c.front-sent.result c.front_len-len.result c.front-sent.ensures c.front_len-len.ensures

pub returns-in-Err-Damaged-clause-err : goal.returns-in-Err-Damaged-clause-err
returns-in-Err-Damaged-clause-err g c = λ first done others words taken gives may.
    let held = c.await_request.new.requests in
    let next = c.await_request.ensures.yes (c.in-Ok-true.is ∙ ap (λ b. Ok b) c.in-Ok-true.field-0-test) in
    let sent = front_is first (g.R.Source.rest c.await_request.new.source) held done others words c.front-sent.result (c.in-Ok-true.ensures.ok first done taken) gives next c.front-sent.ensures in
    absurd (c.read_piece.ensures.damaged (c.in-Err-Damaged.is ∙ ap (λ f. Err f) c.in-Err-Damaged.field-0-is) (subst (λ ws. MayStandBehind c.args.count ws) (sym sent) may))

pub returns-clause-ok : goal.returns-clause-ok
returns-clause-ok g c = λ first done taken.
    let now = g.R.Source.rest c.await_request.new.source in
    record_taken c.in-Ok.found first now c.skip.new.self done c.args.count c.front-sent.result
    (λ words is some. front_taken first now c.await_request.new.requests c.skip.new.self done words c.front-sent.result c.skip.ensures.bytes c.skip.ensures.found (c.in-Ok-true.ensures.ok first done taken) c.front-sent.ensures
    c.skip.ensures.holds c.skip.ensures.read c.skip.ensures.left is some) c.in-Ok.ensures.ok
