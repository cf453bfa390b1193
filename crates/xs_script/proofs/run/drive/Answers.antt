use Rattle.std.proofs.Common.{[], ◌++◌, inl, inr, refl, ◌∙◌}
use Rattle.xs_io.proofs.Passing.{Consumes-nil, Appends-nil, Consumes-trans, Appends-trans}
use Rattle.xs_io.specs.DeviceState.{input_of, output_of}
use Rattle.xs_script.specs.Cause.{writer}
use Rattle.xs_script.proofs.run.drive.Goals as goal

pub steps-init : goal.steps-init
steps-init g c = record { read = []; sent = []; consumes = Consumes-nil _; appends = Appends-nil _; stands = c.requires; counted = refl }

pub steps-preserved : goal.steps-preserved
steps-preserved g c =
    let inv = c.steps.invariant in
    let (came, consumes, stands) = c.in-Ok.ensures.steps inv.read inv.sent inv.stands in
    let (more, appends, after) = c.in-Ok-send_on.ensures.sends c.step.new.keyspace (inv.read ++ came) inv.sent stands in
    record {
      read = inv.read ++ came;
      sent = inv.sent ++ more;
      consumes = Consumes-trans _ _ _ inv.read came inv.consumes consumes;
      appends = Appends-trans _ _ _ inv.sent more inv.appends appends;
      stands = after;
      counted = c.step.ensures.counted ∙ inv.counted;
    }

pub returns-in-Err-clause-ends : goal.returns-in-Err-clause-ends
returns-in-Err-clause-ends g c =
    let inv = c.steps.invariant in
    let (came, consumes, (cause, end, because)) = c.in-Err.ensures.steps inv.read inv.sent inv.stands in
    let (more, appends, ended) = c.send_last.ensures cause (inv.read ++ came) inv.sent end in
    let read = Consumes-trans _ _ _ inv.read came inv.consumes consumes in
    let sent = Appends-trans _ _ _ inv.sent more inv.appends appends in
    elim ended [
      | inl ends ↦ (inv.read ++ came, inv.sent ++ more, cause, read, sent, ends, because (input_of g.R.Source c.args.reader.now) (output_of g.W.Sink c.send_last.new.writer) inv.counted)
      | inr broken ↦ (inv.read ++ came, inv.sent ++ more, writer, read, sent, broken.0, broken.1)
    ]

pub returns-in-Err-send_on-clause-ends : goal.returns-in-Err-send_on-clause-ends
returns-in-Err-send_on-clause-ends g c =
    let inv = c.steps.invariant in
    let (came, consumes, stands) = c.in-Ok.ensures.steps inv.read inv.sent inv.stands in
    let (more, appends, ended) = c.in-Err-send_on.ensures.sends c.step.new.keyspace (inv.read ++ came) inv.sent stands in
    (inv.read ++ came, inv.sent ++ more, writer, Consumes-trans _ _ _ inv.read came inv.consumes consumes, Appends-trans _ _ _ inv.sent more inv.appends appends, ended, c.in-Err-send_on.ensures.cause)
