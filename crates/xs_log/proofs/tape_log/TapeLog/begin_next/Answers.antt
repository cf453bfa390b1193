use Rattle.std.proofs.Common.{length, sym, subst, arith}
use Rattle.xs_log.specs.TapeLog.{HasLog, AwaitsHeader}
use Rattle.xs_log.proofs.TapeLogs.{log_begun, log_unbegun, closes_unknown, or_false, with_failed, without_failed}
use Rattle.xs_log.proofs.tape_log.TapeLog.begin_next.Goals as goal

pub returns-in-Err-clause-has : goal.returns-in-Err-clause-has
returns-in-Err-clause-has g c = λ events log.
    let old = c.args.self.now in
    let new = c.begin_next.new.self in
    let sound = or_false old.failed old.writer.broken c.requires.sound in
    let whole = subst (λ b. HasLog b old.number old.writer events (length events)) sound.1 (without_failed old.failed old.writer.broken old.number old.writer events (length events) sound.0 log) in
    let left = log_unbegun c.begin_next.result _ old.number old.writer new events c.in-Err.is sound.1 c.in-Err.ensures.fault (omega (arith, c.in-Some.ensures)) c.begin_next.ensures.closes whole in
    with_failed old.failed new.broken old.number new events (length events) sound.0 (subst (λ b. HasLog b old.number new events (length events)) (sym c.in-Err.ensures.fault) left)

pub returns-in-Err-clause-unknown : goal.returns-in-Err-clause-unknown
returns-in-Err-clause-unknown g c = λ none. closes_unknown c.begin_next.result c.args.self.now.writer c.begin_next.new.self c.begin_next.ensures.closes none

pub returns-clause-has : goal.returns-clause-has
returns-clause-has g c = λ events log.
    let old = c.args.self.now in
    let new = c.begin_next.new.self in
    let sound = or_false old.failed old.writer.broken c.requires.sound in
    let whole = subst (λ b. HasLog b old.number old.writer events (length events)) sound.1 (without_failed old.failed old.writer.broken old.number old.writer events (length events) sound.0 log) in
    let begun = log_begun c.begin_next.result _ old.number old.writer new events c.in-Ok.is sound.1 c.in-Ok.ensures.fault c.begin_next.ensures.closes whole in
    c.put_header.ensures.has events (subst (λ n. AwaitsHeader n new events) (sym c.in-Some.ensures.1) begun)

pub returns-clause-unknown : goal.returns-clause-unknown
returns-clause-unknown g c = λ none. c.put_header.ensures.unknown (closes_unknown c.begin_next.result c.args.self.now.writer c.begin_next.new.self c.begin_next.ensures.closes none)
