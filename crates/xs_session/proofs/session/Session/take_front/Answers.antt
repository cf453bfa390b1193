use Rattle.std.proofs.Common.{◌≡◌, true, false, [], length, refl, subst, sym}
use Rattle.xs_resp.specs.LeftToWrite.{bytes_left}
use Rattle.xs_connection.specs.declared.standing.Standing.{Standing}
use Rattle.xs_connection.specs.Transaction.{released_of}
use Rattle.xs_session.specs.declared.places.Place.TheVariants.{Awaits}
use Rattle.xs_session.specs.declared.session.Session.{Session}
use Rattle.xs_session.specs.Answers.{Asks, IsTaken}
use Rattle.xs_session.specs.Session.{SessionIsAfter, AsksOrWaits}
use Rattle.xs_session.proofs.OpenCommands.{open-same}
use Rattle.xs_session.proofs.SessionSteps.{session-asked, session-says, step-skips}
use Rattle.xs_session.proofs.Tests.{empty-none, empty-some}
use Rattle.xs_session.proofs.session.Session.take_front.Goals as goal

pub returns-then-is_empty-clause-after : goal.returns-then-is_empty-clause-after
returns-then-is_empty-clause-after g c = λ read asked got sent s.
    let session = c.args.self.now in
    let words = c.front-words.result in (
      step-skips c.args.manner.now session.standing read asked got sent session.ended session.requests c.skip.new.self session.places (bytes_left session.owed) words c.requires.going s.0 c.front-words.ensures c.skip.ensures c.requires.nothing
          (empty-none words c.is_empty.result c.is_empty.ensures c.if-is_empty.true),
      open-same session.alone (length got) asked s.1,
    )

pub returns-then-take_call-clause-after : goal.returns-then-take_call-clause-after
returns-then-take_call-clause-after g c = λ read asked got sent s.
    let manner = c.args.manner.now in
    let words = c.front-words.result in
    let now = c.take_request-taken.new.standing in
    let session : Session = record c.args.self.now { reserve = c.take_request-taken.new.reserve; standing = now } in
    let command = c.in-Asks.call.command in
    let one = Asks command in
    let taken = c.in-Asks.ensures.taken in
    session-asked manner read asked got sent session c.take_call.new.self command one Awaits true words (refl, refl) c.requires.going c.requires.several c.front-words.ensures
    (subst (λ (o : Standing). released_of o.transaction ≡ []) (sym taken.3) c.requires.nothing)
    (empty-some words c.is_empty.result c.is_empty.ensures c.if-is_empty.false)
    (subst (λ (o : Standing). IsTaken manner o words one now) (sym taken.3) taken) c.take_call.ensures.owed
    (subst (λ goes. AsksOrWaits session command Awaits goes c.take_call.new.self) c.if-take_call.true c.take_call.ensures.asks)
    (subst (λ (o : Standing). SessionIsAfter manner read asked got sent (record c.args.self.now { reserve = c.take_request-taken.new.reserve; standing = o })) (sym taken.3) s)

pub returns-else-take_call-clause-after : goal.returns-else-take_call-clause-after
returns-else-take_call-clause-after g c = λ read asked got sent s.
    let manner = c.args.manner.now in
    let words = c.front-words.result in
    let now = c.take_request-taken.new.standing in
    let session : Session = record c.args.self.now { reserve = c.take_request-taken.new.reserve; standing = now } in
    let command = c.in-Asks.call.command in
    let one = Asks command in
    let taken = c.in-Asks.ensures.taken in
    session-asked manner read asked got sent session c.take_call.new.self command one Awaits false words (refl, refl) c.requires.going c.requires.several c.front-words.ensures
    (subst (λ (o : Standing). released_of o.transaction ≡ []) (sym taken.3) c.requires.nothing)
    (empty-some words c.is_empty.result c.is_empty.ensures c.if-is_empty.false)
    (subst (λ (o : Standing). IsTaken manner o words one now) (sym taken.3) taken) c.take_call.ensures.owed
    (subst (λ goes. AsksOrWaits session command Awaits goes c.take_call.new.self) c.if-take_call.false c.take_call.ensures.asks)
    (subst (λ (o : Standing). SessionIsAfter manner read asked got sent (record c.args.self.now { reserve = c.take_request-taken.new.reserve; standing = o })) (sym taken.3) s)

pub returns-in-Says-clause-after : goal.returns-in-Says-clause-after
returns-in-Says-clause-after g c = λ read asked got sent s.
    let words = c.front-words.result in
    let session : Session = record c.args.self.now { reserve = c.take_request-taken.new.reserve } in
    session-says c.args.manner.now read asked got sent session c.say.new.self c.take_request-taken.new.standing c.in-Says.reply c.say.result words c.requires.going c.front-words.ensures c.requires.nothing
    (empty-some words c.is_empty.result c.is_empty.ensures c.if-is_empty.false) c.in-Says.ensures.taken c.say.ensures.skips c.say.ensures.goes c.say.ensures.after s

pub returns-in-Info-clause-after : goal.returns-in-Info-clause-after
returns-in-Info-clause-after g c = λ read asked got sent s.
    c.inform.ensures.after read asked got sent
    (subst (λ (o : Standing). SessionIsAfter c.args.manner.now read asked got sent (record c.args.self.now { reserve = c.take_request-taken.new.reserve; standing = o })) (sym c.in-Info.ensures.taken.1) s)
