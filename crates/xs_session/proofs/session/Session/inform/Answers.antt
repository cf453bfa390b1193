use Rattle.std.proofs.Common.{◌≡◌, ◌<◌, true, false, [], length, refl, subst, sym}
use Rattle.xs_connection.specs.declared.standing.Standing.{Standing}
use Rattle.xs_connection.specs.Transaction.{released_of}
use Rattle.xs_session.specs.declared.places.Place.TheVariants.{AwaitsKeys}
use Rattle.xs_session.specs.declared.session.Session.{Session}
use Rattle.xs_session.specs.Answers.{Informs, IsTaken}
use Rattle.xs_session.specs.Session.{SessionIsAfter, AsksOrWaits}
use Rattle.xs_session.proofs.SessionSteps.{session-asked, session-says}
use Rattle.xs_session.proofs.session.Session.inform.Goals as goal

pub returns-then-take_call-clause-after : goal.returns-then-take_call-clause-after
returns-then-take_call-clause-after g c = λ read asked got sent s.
    let manner = c.args.manner.now in
    let words = c.front-words.result in
    let now = c.take_info.new.standing in
    let session : Session = record c.args.self.now { standing = now } in
    let command = c.in-Ok.call.command in
    let one = Informs c.in-Ok.information in
    let place = AwaitsKeys c.in-Ok.information in
    let taken = c.in-Ok.ensures.taken in
    session-asked manner read asked got sent session c.take_call.new.self command one place true words (c.in-Ok.ensures.command, refl) c.requires.going c.requires.several c.front-words.ensures
    (subst (λ (o : Standing). released_of o.transaction ≡ []) (sym taken.1) c.requires.nothing)
    (subst (λ w. 0 < length w) (sym c.front-words.ensures) c.requires.some)
    (subst (λ (o : Standing). IsTaken manner o words one now) (sym taken.1) taken) c.take_call.ensures.owed
    (subst (λ goes. AsksOrWaits session command place goes c.take_call.new.self) c.if-take_call.true c.take_call.ensures.asks)
    (subst (λ (o : Standing). SessionIsAfter manner read asked got sent (record c.args.self.now { standing = o })) (sym taken.1) s)

pub returns-else-take_call-clause-after : goal.returns-else-take_call-clause-after
returns-else-take_call-clause-after g c = λ read asked got sent s.
    let manner = c.args.manner.now in
    let words = c.front-words.result in
    let now = c.take_info.new.standing in
    let session : Session = record c.args.self.now { standing = now } in
    let command = c.in-Ok.call.command in
    let one = Informs c.in-Ok.information in
    let place = AwaitsKeys c.in-Ok.information in
    let taken = c.in-Ok.ensures.taken in
    session-asked manner read asked got sent session c.take_call.new.self command one place false words (c.in-Ok.ensures.command, refl) c.requires.going c.requires.several c.front-words.ensures
    (subst (λ (o : Standing). released_of o.transaction ≡ []) (sym taken.1) c.requires.nothing)
    (subst (λ w. 0 < length w) (sym c.front-words.ensures) c.requires.some)
    (subst (λ (o : Standing). IsTaken manner o words one now) (sym taken.1) taken) c.take_call.ensures.owed
    (subst (λ goes. AsksOrWaits session command place goes c.take_call.new.self) c.if-take_call.false c.take_call.ensures.asks)
    (subst (λ (o : Standing). SessionIsAfter manner read asked got sent (record c.args.self.now { standing = o })) (sym taken.1) s)

pub returns-in-Err-clause-after : goal.returns-in-Err-clause-after
returns-in-Err-clause-after g c = λ read asked got sent s.
    session-says c.args.manner.now read asked got sent c.args.self.now c.say.new.self c.take_info.new.standing c.in-Err.reply c.say.result c.front-words.result c.requires.going c.front-words.ensures c.requires.nothing
    (subst (λ w. 0 < length w) (sym c.front-words.ensures) c.requires.some) c.in-Err.ensures.taken c.say.ensures.skips c.say.ensures.goes c.say.ensures.after s
