use Rattle.std.proofs.Common.{[], ◌∷◌, ◌++◌, Ok, Option, sym, ap, ◌∙◌, subst, refl}
use Rattle.xs_io.proofs.Passing.{Consumes-nil, Appends-nil}
use Rattle.xs_resp.specs.HeldBytes.{Held}
use Rattle.xs_resp.specs.LeftToWrite.{bytes_left}
use Rattle.xs_session.specs.declared.ending.Ending.{Ending}
use Rattle.xs_session.specs.Session.{Waits}
use Rattle.xs_work.proofs.AheadSteps.{still, read-none, fails-none, asked-none, read-so, serves-end, serves-gone, serves-fails, end-cause, lost-cause}
use Rattle.xs_work.proofs.ahead.step.Goals as goal

pub returns-in-Goes : goal.returns-in-Goes
returns-in-Goes g c = record {
  steps = λ first read asked sent a.
      let manner = c.args.manner.now in
      let session = c.advance.new.self in
      let now = c.args.client.now in
      let b = asked-none first now manner read sent asked asked session a.got (c.in-Goes.ensures.after read asked a.got sent a.after) a.calls in
      ([], [], Consumes-nil _, Appends-nil _, (asked, still first now manner read sent asked asked session b));
}

pub returns-in-Ok : goal.returns-in-Ok
returns-in-Ok g c = record {
  steps = λ first read asked sent a.
      let manner = c.args.manner.now in
      let all = asked ++ c.in-Asks.call.command ∷ [] in
      let b = c.in-Ok.ensures.after first manner read all asked sent (record { got = a.got; after = c.in-Asks.ensures.after read asked a.got sent a.after; calls = a.calls }) in
      ([], [], Consumes-nil _, Appends-nil _, (all, still first c.submit.new.client manner read sent all all c.submit.new.session b));
}

pub returns-in-Err : goal.returns-in-Err
returns-in-Err g c = record {
  steps = λ first read asked sent a.
      let manner = c.args.manner.now in
      let all = asked ++ c.in-Asks.call.command ∷ [] in
      let now = c.submit.new.client in
      let session = c.submit.new.session in
      let b = c.in-Err.ensures.after first manner read all asked sent (record { got = a.got; after = c.in-Asks.ensures.after read asked a.got sent a.after; calls = a.calls }) in
      ([], [], Consumes-nil _, Appends-nil _, (serves-gone first now manner (read ++ []) (sent ++ []) asked c.in-Asks.call.command session (still first now manner read sent all asked session b), tt));
}

pub returns-in-Ok-make_room : goal.returns-in-Ok-make_room
returns-in-Ok-make_room g c = record {
  steps = λ first read asked sent a.
      let manner = c.args.manner.now in
      let b = asked-none first c.args.client.now manner read sent asked asked c.advance.new.self a.got (c.in-Full.ensures.after read asked a.got sent a.after) a.calls in
      let (more, went, later) = c.in-Ok-make_room.ensures.after first manner read asked asked sent b in
      ([], more, Consumes-nil _, went, (asked, read-none first c.make_room.new.client manner read (sent ++ more) asked asked c.make_room.new.session later));
}

pub returns-in-Err-make_room : goal.returns-in-Err-make_room
returns-in-Err-make_room g c = record {
  steps = λ first read asked sent a.
      let manner = c.args.manner.now in
      let b = asked-none first c.args.client.now manner read sent asked asked c.advance.new.self a.got (c.in-Full.ensures.after read asked a.got sent a.after) a.calls in
      let (more, went, fails) = c.in-Err-make_room.ensures.after first manner read asked asked sent b in
      let now = c.make_room.new.client in
      ([], more, Consumes-nil _, went, (serves-fails first now manner (read ++ []) (sent ++ more) c.in-Err-make_room.fault asked (fails-none first now manner read (sent ++ more) c.in-Err-make_room.fault asked asked fails), lost-cause c.in-Err-make_room.fault _ _ c.in-Err-make_room.ensures.cause));
}

pub returns-in-Ok-true : goal.returns-in-Ok-true
returns-in-Ok-true g c = record {
  steps = λ first read asked sent a.
      let manner = c.args.manner.now in
      let b = asked-none first c.args.client.now manner read sent asked asked c.advance.new.self a.got (c.in-Ends.ensures.after read asked a.got sent a.after) a.calls in
      let (more, went, later) = c.in-Ok-true.ensures.after first manner read asked asked sent b in
      ([], more, Consumes-nil _, went, (asked, read-none first c.settle.new.client manner read (sent ++ more) asked asked c.settle.new.session later));
}

pub returns-in-Ok-false : goal.returns-in-Ok-false
returns-in-Ok-false g c = record {
  steps = λ first read asked sent a.
      let manner = c.args.manner.now in
      let b = asked-none first c.args.client.now manner read sent asked asked c.advance.new.self a.got (c.in-Ends.ensures.after read asked a.got sent a.after) a.calls in
      let (more, went, later) = c.in-Ok-false.ensures.after first manner read asked asked sent b in
      let now = c.settle.new.client in
      let session = c.settle.new.session in
      let ended = c.in-Ok-false.ensures.ended ∙ c.in-Ends.ensures.ended c.in-Ends.ending refl in
      let done = c.in-Ok-false.ensures.done (ap Ok c.in-Ok-false.field-0-test) in (
        [],
        more,
        Consumes-nil _,
        went,
        (
          serves-end first now manner (read ++ []) (sent ++ more) c.in-Ends.ending asked session (read-none first now manner read (sent ++ more) asked asked session later) ended done,
          end-cause first now manner read (sent ++ more) session.standing c.in-Ends.ending session.ended session.requests session.places (bytes_left session.owed) asked later.got _ _ later.after.0 ended,
        ),
      );
}

pub returns-in-Err-settle : goal.returns-in-Err-settle
returns-in-Err-settle g c = record {
  steps = λ first read asked sent a.
      let manner = c.args.manner.now in
      let b = asked-none first c.args.client.now manner read sent asked asked c.advance.new.self a.got (c.in-Ends.ensures.after read asked a.got sent a.after) a.calls in
      let (more, went, fails) = c.in-Err-settle.ensures.after first manner read asked asked sent b in
      let now = c.settle.new.client in
      ([], more, Consumes-nil _, went, (serves-fails first now manner (read ++ []) (sent ++ more) c.in-Err-settle.fault asked (fails-none first now manner read (sent ++ more) c.in-Err-settle.fault asked asked fails), lost-cause c.in-Err-settle.fault _ _ c.in-Err-settle.ensures.cause));
}

pub returns-in-Ok-true-settle : goal.returns-in-Ok-true-settle
returns-in-Ok-true-settle g c = record {
  steps = λ first read asked sent a.
      let manner = c.args.manner.now in
      let b = asked-none first c.args.client.now manner read sent asked asked c.advance.new.self a.got (c.in-Waits.ensures.after read asked a.got sent a.after) a.calls in
      let (more, went, later) = c.in-Ok-true-settle.ensures.after first manner read asked asked sent b in
      ([], more, Consumes-nil _, went, (asked, read-none first c.settle-in-Waits.new.client manner read (sent ++ more) asked asked c.settle-in-Waits.new.session later));
}

pub returns-in-Ok-false-settle : goal.returns-in-Ok-false-settle
returns-in-Ok-false-settle g c = record {
  steps = λ first read asked sent a.
      let manner = c.args.manner.now in
      let b = asked-none first c.args.client.now manner read sent asked asked c.advance.new.self a.got (c.in-Waits.ensures.after read asked a.got sent a.after) a.calls in
      let (more, went, later) = c.in-Ok-false-settle.ensures.after first manner read asked asked sent b in
      let (came, consumes, after) = c.read_on.ensures.reads manner read asked later.got (sent ++ more) later.after in (
        came,
        more,
        consumes,
        went,
        read-so first c.settle-in-Waits.new.client manner (read ++ came) (sent ++ more) c.read_on.result _ _ asked c.read_on.new.session (record { got = later.got; after = after; calls = later.calls }) c.read_on.ensures.done c.read_on.ensures.ends (c.read_on.ensures.cause _),
      );
}

pub returns-in-Err-settle-2 : goal.returns-in-Err-settle-2
returns-in-Err-settle-2 g c = record {
  steps = λ first read asked sent a.
      let manner = c.args.manner.now in
      let b = asked-none first c.args.client.now manner read sent asked asked c.advance.new.self a.got (c.in-Waits.ensures.after read asked a.got sent a.after) a.calls in
      let (more, went, fails) = c.in-Err-settle-2.ensures.after first manner read asked asked sent b in
      let now = c.settle-in-Waits.new.client in
      ([], more, Consumes-nil _, went, (serves-fails first now manner (read ++ []) (sent ++ more) c.in-Err-settle-2.fault asked (fails-none first now manner read (sent ++ more) c.in-Err-settle-2.fault asked asked fails), lost-cause c.in-Err-settle-2.fault _ _ c.in-Err-settle-2.ensures.cause));
}

pub read_on-requires-clause-waits : goal.read_on-requires-clause-waits
read_on-requires-clause-waits g c =
    let same = c.in-Ok-false-settle.ensures in
    subst (λ (e : Option Ending). Waits e c.settle-in-Waits.new.session.requests) (sym same.ended)
    (subst (λ (h : Held). Waits c.advance.new.self.ended h) (sym same.held) (c.in-Waits.ensures.waits refl))

pub submit-requires : goal.submit-requires
submit-requires g c = c.in-Asks.ensures.formed c.in-Asks.call refl
