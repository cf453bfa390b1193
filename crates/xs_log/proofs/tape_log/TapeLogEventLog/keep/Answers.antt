use Rattle.std.proofs.Common.{◌≡◌, None, length}
use Rattle.std.specs.Prelude.{◌||◌}
use Rattle.xs_log.specs.TapeLog.{HasLog}
use Rattle.xs_log.proofs.TapeLogs.{log_kept, log_unkept, log_fewer, keeps_unknown, match_any, or_false, with_failed, without_failed}
use Rattle.xs_log.proofs.tape_log.TapeLogEventLog.keep.Goals as goal

pub returns-in-Err-clause-kept : goal.returns-in-Err-clause-kept
returns-in-Err-clause-kept g c = λ events kept log.
    let old = c.args.self.now in
    let new = c.commit.new.self in
    let sound = or_false old.failed old.writer.broken c.requires.sound in
    with_failed old.failed new.broken old.number new events kept sound.0
    (log_unkept c.commit.result _ old.number old.writer new events kept c.in-Err.is sound.1 c.commit.ensures.keeps (without_failed old.failed old.writer.broken old.number old.writer events kept sound.0 log))

pub returns-then-size-self-clause-kept : goal.returns-then-size-self-clause-kept
returns-then-size-self-clause-kept g c = λ events kept log.
    let old = c.args.self.now in
    let new = c.commit.new.self in
    let sound = or_false old.failed old.writer.broken c.requires.sound in
    with_failed old.failed new.broken old.number new events (length events) sound.0
    (log_kept c.commit.result _ old.number old.writer new events kept c.in-Ok.is sound.1 c.commit.ensures.keeps (without_failed old.failed old.writer.broken old.number old.writer events kept sound.0 log))

pub returns-clause-kept : goal.returns-clause-kept
returns-clause-kept g c = λ events kept log.
    let old = c.args.self.now in
    let new = c.commit.new.self in
    let last = c.begin_next.new.self in
    let sound = or_false old.failed old.writer.broken c.requires.sound in
    let all = with_failed old.failed new.broken old.number new events (length events) sound.0
    (log_kept c.commit.result _ old.number old.writer new events kept c.in-Ok.is sound.1 c.commit.ensures.keeps (without_failed old.failed old.writer.broken old.number old.writer events kept sound.0 log)) in
    let begun = c.begin_next.ensures.has events all in
    let none : old.writer.holds ≡ None → last.writer.holds ≡ None = λ e. c.begin_next.ensures.unknown (keeps_unknown c.commit.result old.writer new c.commit.ensures.keeps e) in
    match_any c.begin_next.result (HasLog (last.failed || last.writer.broken) last.number last.writer events (length events)) (HasLog (last.failed || last.writer.broken) last.number last.writer events kept) begun (log_fewer (last.failed || last.writer.broken) (old.failed || old.writer.broken) last.number old.number old.writer last.writer events kept none log begun)
