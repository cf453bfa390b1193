use Rattle.xs_resp.specs.LeftToWrite.{bytes_left}
use Rattle.xs_session.proofs.SessionSteps.{after-read}
use Rattle.xs_session.proofs.Tests.{gave-more}
use Rattle.xs_session.proofs.session.Session.read_from.Goals as goal

pub returns-clause-ok : goal.returns-clause-ok
returns-clause-ok g c =
    let session = c.args.self.now in
    let rest = g.R.Source.rest in
    gave-more c.fill.result (rest c.args.reader.now) (rest c.fill.new.reader) (g.R.Source.ended c.fill.new.reader) _ _ (λ more is. (is, λ manner read asked got sent s. (after-read manner session.standing read asked got sent session.ended session.requests c.fill.new.self session.places (bytes_left session.owed) more c.requires is s.0, s.1))) c.fill.ensures.ok
