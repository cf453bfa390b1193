use Rattle.xs_resp.specs.LeftToWrite.{bytes_left}
use Rattle.xs_session.proofs.SessionSteps.{after-begun}
use Rattle.xs_session.proofs.session.Session.begin_answer.Goals as goal

pub returns-then-not-is_gathered-clause-last : goal.returns-then-not-is_gathered-clause-last
returns-then-not-is_gathered-clause-last c = λ _ none. absurd (c.is_gathered.ensures.more c.if-not-is_gathered.true none)

pub returns-clause-after : goal.returns-clause-after
returns-clause-after c = λ manner read asked got sent s.
    let session = c.args.self.now in (
      after-begun manner session.standing read asked got sent session.ended session.requests session.places c.next.new.self (bytes_left session.owed) (bytes_left c.begin.new.self) c.in-Some.reply s.0 c.in-Some.ensures c.begin.ensures,
      s.1,
    )
