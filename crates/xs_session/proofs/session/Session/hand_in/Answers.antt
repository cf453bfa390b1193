use Rattle.std.proofs.Common.{◌++◌, ◌∷◌, [], sym, subst, List}
use Rattle.xs_session.specs.declared.places.Place.{Place}
use Rattle.xs_resp.specs.LeftToWrite.{bytes_left}
use Rattle.xs_session.specs.Session.{IsAfter}
use Rattle.xs_session.proofs.OpenCommands.{open-fewer}
use Rattle.xs_session.proofs.SessionSteps.{after-answered}
use Rattle.xs_session.proofs.session.Session.hand_in.Goals as goal

pub returns-clause-after : goal.returns-clause-after
returns-clause-after c = λ manner read asked got sent s.
    let session = c.args.self.now in (
      subst (λ (p : List Place). IsAfter manner session.standing read asked (got ++ c.args.reply ∷ []) sent session.ended session.requests p (bytes_left session.owed)) (sym c.answer.ensures)
          (after-answered manner session.standing read asked got sent session.ended session.requests session.places (bytes_left session.owed) c.args.reply s.0 c.requires),
      open-fewer session.alone got c.args.reply asked s.1,
    )
