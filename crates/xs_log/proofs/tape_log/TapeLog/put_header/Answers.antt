use Rattle.std.proofs.Common.{codes, length, sym, subst, arith}
use Rattle.xs_tape.specs.Records.{CanBeSpelled, record_words, record_text}
use Rattle.xs_tape.specs.Writing.{Puts}
use Rattle.xs_log.proofs.TapeLogs.{header_missing, header_spelled, header_put, header_kept, header_unkept, puts_unknown, keeps_unknown, or_false, with_failed}
use Rattle.xs_log.proofs.tape_log.TapeLog.put_header.Goals as goal

pub returns-in_default-clause-has : goal.returns-in_default-clause-has
returns-in_default-clause-has g c = λ events awaits.
    let old = c.args.self.now in
    header_missing old.number old.writer.pending old.writer.holds events (omega arith) awaits

pub push-requires-clause-spelled : goal.push-requires-clause-spelled
push-requires-clause-spelled g c = subst (λ r. CanBeSpelled (record_words (codes "xs-log") r)) (sym c.in-Ok.ensures) (header_spelled c.args.self.now.number (omega arith))

pub returns-in-Err-clause-has : goal.returns-in-Err-clause-has
returns-in-Err-clause-has g c = λ events awaits.
    let old = c.args.self.now in
    let new = c.push.new.self in
    let sound = or_false old.failed old.writer.broken c.requires.sound in
    let puts = subst (λ r. Puts old.writer new (record_text (codes "xs-log") r)) c.in-Ok.ensures c.push.ensures.puts in
    with_failed old.failed new.broken old.number new events (length events) sound.0 (header_put old.number old.writer new events sound.1 c.in-Err.ensures.fault (omega arith) puts awaits)

pub returns-in-Err-clause-unknown : goal.returns-in-Err-clause-unknown
returns-in-Err-clause-unknown g c = λ none. puts_unknown c.args.self.now.writer c.push.new.self _ c.push.ensures.puts none

pub returns-in-Ok-kept-clause-has : goal.returns-in-Ok-kept-clause-has
returns-in-Ok-kept-clause-has g c = λ events awaits.
    let old = c.args.self.now in
    let new = c.commit-kept.new.self in
    let sound = or_false old.failed old.writer.broken c.requires.sound in
    let puts = subst (λ r. Puts old.writer c.push.new.self (record_text (codes "xs-log") r)) c.in-Ok.ensures c.push.ensures.puts in
    with_failed old.failed new.broken old.number new events (length events) sound.0
    (header_kept c.commit-kept.result _ old.number old.writer c.push.new.self new events c.in-Ok-kept.is sound.1 (omega arith) puts c.commit-kept.ensures.keeps awaits)

pub returns-in-Ok-kept-clause-unknown : goal.returns-in-Ok-kept-clause-unknown
returns-in-Ok-kept-clause-unknown g c = λ none.
    keeps_unknown c.commit-kept.result c.push.new.self c.commit-kept.new.self c.commit-kept.ensures.keeps (puts_unknown c.args.self.now.writer c.push.new.self _ c.push.ensures.puts none)

pub returns-clause-has : goal.returns-clause-has
returns-clause-has g c = λ events awaits.
    let old = c.args.self.now in
    let new = c.commit-kept.new.self in
    let sound = or_false old.failed old.writer.broken c.requires.sound in
    let puts = subst (λ r. Puts old.writer c.push.new.self (record_text (codes "xs-log") r)) c.in-Ok.ensures c.push.ensures.puts in
    with_failed old.failed new.broken old.number new events (length events) sound.0
    (header_unkept c.commit-kept.result _ old.number old.writer c.push.new.self new events c.in-Err-kept.is sound.1 c.in-Err-kept.ensures.fault (omega arith) puts c.commit-kept.ensures.keeps awaits)

pub returns-clause-unknown : goal.returns-clause-unknown
returns-clause-unknown g c = λ none.
    keeps_unknown c.commit-kept.result c.push.new.self c.commit-kept.new.self c.commit-kept.ensures.keeps (puts_unknown c.args.self.now.writer c.push.new.self _ c.push.ensures.puts none)
