use Rattle.std.proofs.Common.{[], ◌∷◌, ap, sym, ◌∙◌, refl}
use Rattle.std.specs.Prelude.{Ok}
use Rattle.xs_replay.specs.Snapshot.{snapshot_header}
use Rattle.xs_log.proofs.Steps.{front_size}
use Rattle.xs_log.proofs.SnapshotInput.{all_taken, not_all, next_front, front_is, front_taken}
use Rattle.xs_log.proofs.snapshot_input.take_header.Goals as goal

pub returns-in-Ok-false-clause-err : goal.returns-in-Ok-false-clause-err
returns-in-Ok-false-clause-err g c = λ first moment others taken gives fits.
    let header = snapshot_header c.args.number moment in
    let end = c.await_request.ensures.no (c.in-Ok-false.is ∙ ap (λ b. Ok b) c.in-Ok-false.field-0-test) in
    let all = all_taken first (g.R.Source.rest c.await_request.new.source) c.await_request.new.requests [] (header ∷ others) (end.1).0 (c.in-Ok-false.ensures.ok first [] taken) gives end.0 (end.1).1 (end.1).2 in
    not_all [] others header all.0

pub returns-in-Err-clause-err : goal.returns-in-Err-clause-err
returns-in-Err-clause-err g c = λ first moment others taken gives fits. c.in-Err.ensures.err first [] (snapshot_header c.args.number moment ∷ others) taken gives

pub read_header-requires : goal.read_header-requires
read_header-requires g c =
    let held = c.await_request.new.requests in
    let front = next_front held (c.await_request.ensures.yes (c.in-Ok-true.is ∙ ap (λ b. Ok b) c.in-Ok-true.field-0-test)) in
    front_size held front c.front-sent.result c.front_len-len.result c.front-sent.ensures c.front_len-len.ensures

pub returns-in-Err-read_header-clause-err : goal.returns-in-Err-read_header-clause-err
returns-in-Err-read_header-clause-err g c = λ first moment others taken gives fits.
    let held = c.await_request.new.requests in
    let next = c.await_request.ensures.yes (c.in-Ok-true.is ∙ ap (λ b. Ok b) c.in-Ok-true.field-0-test) in
    let sent = front_is first (g.R.Source.rest c.await_request.new.source) held [] others (snapshot_header c.args.number moment) c.front-sent.result (c.in-Ok-true.ensures.ok first [] taken) gives next c.front-sent.ensures in
    elim c.in-Err-read_header.ensures.err [
      | Rattle.std.proofs.Common.inl out ↦ out
      | Rattle.std.proofs.Common.inr other ↦ absurd (other moment fits sent)
    ]

pub returns-clause-ok : goal.returns-clause-ok
returns-clause-ok g c = λ first taken.
    let is = c.in-Ok.ensures.ok in (
      front_taken first (g.R.Source.rest c.await_request.new.source) c.await_request.new.requests c.skip.new.self [] (snapshot_header c.args.number c.in-Ok.moment) c.front-sent.result c.skip.ensures.bytes c.skip.ensures.found
          (c.in-Ok-true.ensures.ok first [] taken) c.front-sent.ensures c.skip.ensures.holds c.skip.ensures.read c.skip.ensures.left is.0 (λ e. absurd (cc (e))),
      is.1,
    )
