use Rattle.std.proofs.Common.{[], Ok, sym, ap, ◌∙◌, subst}
use Rattle.std.proofs.lemmas.List.{append-nil}
use Rattle.xs_io.proofs.Passing.{Consumes-nil, Consumes-kept}
use Rattle.xs_resp.specs.LeftToWrite.{bytes_left}
use Rattle.xs_session.specs.declared.session.Session.{Session}
use Rattle.xs_session.specs.Session.{SessionIsAfter, Waits}
use Rattle.xs_work.specs.Ahead.{IsDone}
use Rattle.xs_work.proofs.AheadSteps.{end-waits}
use Rattle.xs_work.proofs.ahead.read_on.Goals as goal

pub returns-in-Ok-eq0-clause-reads : goal.returns-in-Ok-eq0-clause-reads
returns-in-Ok-eq0-clause-reads g c = λ manner read asked got sent s.
    let (more, size, small, came, end, is) = c.in-Ok-eq0.ensures.ok in
    (more, came, is.1 manner read asked got sent s)

pub returns-in-Ok-eq0-clause-ends : goal.returns-in-Ok-eq0-clause-ends
returns-in-Ok-eq0-clause-ends g c =
    let session = c.read_from.new.self in
    let same = c.read_from.ensures.none (c.in-Ok-eq0.is ∙ ap Ok c.in-Ok-eq0.field-0-test) in
    let waits = subst (λ (x : Session). Waits x.ended x.requests) (sym same) c.requires.waits in
    let done = subst (λ (x : Session). IsDone x.places (bytes_left x.owed)) (sym same) c.requires.done in
    end-waits c.end.result session.ended session.requests session.places (bytes_left session.owed) waits done c.end.ensures

pub returns-in-Err-Memory-clause-reads : goal.returns-in-Err-Memory-clause-reads
returns-in-Err-Memory-clause-reads g c = λ manner read asked got sent s.
    let err = c.in-Err-Memory.ensures.err in
    ([], Consumes-kept _ _ _ [] (Consumes-nil _) err.1, rw (append-nil read) (subst (λ (x : Session). SessionIsAfter manner read asked got sent x) (sym err.0) s))

pub returns-in-Err-Memory-clause-ends : goal.returns-in-Err-Memory-clause-ends
returns-in-Err-Memory-clause-ends g c =
    subst (λ (x : Session). Waits x.ended x.requests × IsDone x.places (bytes_left x.owed)) (sym c.in-Err-Memory.ensures.err.0) (c.requires.waits, c.requires.done)

pub returns-in-Err-Read-clause-reads : goal.returns-in-Err-Read-clause-reads
returns-in-Err-Read-clause-reads g c = λ manner read asked got sent s.
    let err = c.in-Err-Read.ensures.err in
    ([], Consumes-kept _ _ _ [] (Consumes-nil _) err.1, rw (append-nil read) (subst (λ (x : Session). SessionIsAfter manner read asked got sent x) (sym err.0) s))

pub returns-in-Err-Read-clause-ends : goal.returns-in-Err-Read-clause-ends
returns-in-Err-Read-clause-ends g c =
    subst (λ (x : Session). Waits x.ended x.requests × IsDone x.places (bytes_left x.owed)) (sym c.in-Err-Read.ensures.err.0) (c.requires.waits, c.requires.done)

pub returns-in-Ok-clause-reads : goal.returns-in-Ok-clause-reads
returns-in-Ok-clause-reads g c = λ manner read asked got sent s.
    let (more, size, small, came, end, is) = c.in-Ok.ensures.ok in
    (more, came, is.1 manner read asked got sent s)
