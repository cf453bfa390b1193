use Rattle.std.proofs.Common.{[], ◌++◌}
use Rattle.xs_io.proofs.Passing.{Consumes-nil, Appends-nil, Consumes-trans, Appends-trans}
use Rattle.xs_session.proofs.SessionSteps.{session-new}
use Rattle.xs_work.proofs.AheadCalls.{calls-none}
use Rattle.xs_work.proofs.ahead.serve_ahead.Goals as goal

pub loop-init : goal.loop-init
loop-init g c =
    let new = c.clear.ensures in
    record {
      read = [];
      sent = [];
      consumes = Consumes-nil _;
      appends = Appends-nil _;
      asked = [];
      after =
          record {
            got = [];
            after = session-new c.args.manner.now [] c.clear.new.self new.ended new.requests new.places new.owed new.first;
            calls = calls-none c.args.client.now;
          };
    }

pub loop-preserved : goal.loop-preserved
loop-preserved g c =
    let inv = c.loop.invariant in
    let (came, went, consumes, appends, (now, after)) = c.in-Ok.ensures.steps c.args.client.now inv.read inv.asked inv.sent inv.after in
    record {
      read = inv.read ++ came;
      sent = inv.sent ++ went;
      consumes = Consumes-trans _ _ _ inv.read came inv.consumes consumes;
      appends = Appends-trans _ _ _ inv.sent went inv.appends appends;
      asked = now;
      after = after;
    }

pub returns-in-Err-clause-serves : goal.returns-in-Err-clause-serves
returns-in-Err-clause-serves g c =
    let inv = c.loop.invariant in
    let (came, went, consumes, appends, ends) = c.in-Err.ensures.steps c.args.client.now inv.read inv.asked inv.sent inv.after in
    (inv.read ++ came, inv.sent ++ went, Consumes-trans _ _ _ inv.read came inv.consumes consumes, Appends-trans _ _ _ inv.sent went inv.appends appends, ends.0)

pub returns-in-Err-clause-cause : goal.returns-in-Err-clause-cause
returns-in-Err-clause-cause g c =
    let inv = c.loop.invariant in
    let (came, went, consumes, appends, ends) = c.in-Err.ensures.steps c.args.client.now inv.read inv.asked inv.sent inv.after in
    ends.1
