use Rattle.std.proofs.Common.{rules, ◌≡◌, ℕ, List, ◌∷◌, sym, ap, ◌∙◌, subst}
use Rattle.xs_connection.specs.declared.standing.Standing.{Standing}
use Rattle.xs_connection.specs.declared.transaction.Transaction.{Transaction}
use Rattle.xs_connection.specs.declared.transaction.Transaction.TheVariants.{Released}
use Rattle.xs_session.specs.declared.session.Session.{Session}
use Rattle.xs_session.specs.Answers.{Says, IsRun}
use Rattle.xs_session.proofs.SessionSteps.{session-released, session-run-says}
use Rattle.xs_session.proofs.session.Session.run_next.Goals as goal

pub returns-in-Ok-clause-after : goal.returns-in-Ok-clause-after
returns-in-Ok-clause-after c = λ manner read asked got sent s.
    let session : Session = record c.args.self.now { reserve = c.command_of_released-said.new.reserve } in
    session-released manner read asked got sent session c.ask_released.new.self c.in-Ok.command c.ask_released.result c.requires.going c.requires.several c.ask_released.ensures.owed c.ask_released.ensures.asks s

first-same : (a b : List (List ℕ)) (xs ys : List (List (List ℕ))) → Released (a ∷ xs) ≡ Released (b ∷ ys) → a ≡ b
first-same a b xs ys is = cc

pub returns-in-Err-clause-after : goal.returns-in-Err-clause-after
returns-in-Err-clause-after c = λ manner read asked got sent s.
    let session = c.args.self.now in
    let taken = c.take_next.ensures in
    let front : (others : List (List (List ℕ))) × (session.standing.transaction ≡ Released (c.as_slice.result.now ∷ others)) = search rules in
    let same : c.as_slice.result.now ≡ c.take_next.result = first-same c.as_slice.result.now c.take_next.result front.0 taken.0 (sym front.1 ∙ taken.1) in
    session-run-says manner read asked got sent session c.say.new.self _ c.take_next.result taken.0 c.in-Err.reply c.requires.going taken.1 (subst (λ w. IsRun w (Says c.in-Err.reply)) same c.in-Err.ensures.said)
    (ap (λ (t : Transaction). let x : Standing = record session.standing { transaction = t } in x) taken.2) c.say.ensures s
