use Rattle.std.proofs.Common.{decimal, sym, ap, ◌∙◌, subst}
use Rattle.xs_tape.specs.Records.{CanBeSpelled, record_words, record_text}
use Rattle.xs_tape.specs.Writing.{Puts}
use Rattle.xs_log.proofs.TapeLogs.{noted, or_false, with_failed, without_failed}
use Rattle.xs_log.proofs.tape_log.TapeLogEventLog.note.Goals as goal

pub push-requires-clause-spelled : goal.push-requires-clause-spelled
push-requires-clause-spelled g c =
    let text = c.as_bytes-moment.ensures.value ∙ c.format.ensures.text ∙ ap decimal c.get.ensures.value in
    subst (λ t. CanBeSpelled (record_words t c.args.words.now)) (sym text) c.requires.short

pub returns-in-Err-clause-noted : goal.returns-in-Err-clause-noted
returns-in-Err-clause-noted g c = λ command events kept is formed log.
    let old = c.args.self.now in
    let new = c.push.new.self in
    let sound = or_false old.failed old.writer.broken c.requires.sound in
    let text = c.as_bytes-moment.ensures.value ∙ c.format.ensures.text ∙ ap decimal c.get.ensures.value in
    let puts = subst (λ t. Puts old.writer new (record_text t c.args.words.now)) text c.push.ensures.puts in
    with_failed old.failed new.broken old.number new _ kept sound.0
    (noted old.number c.args.now c.args.words.now command old.writer new events kept sound.1 puts c.requires.short c.get.ensures.small is formed (without_failed old.failed old.writer.broken old.number old.writer events kept sound.0 log))

pub returns-in-Ok-clause-noted : goal.returns-in-Ok-clause-noted
returns-in-Ok-clause-noted g c = λ command events kept is formed log.
    let old = c.args.self.now in
    let new = c.push.new.self in
    let sound = or_false old.failed old.writer.broken c.requires.sound in
    let text = c.as_bytes-moment.ensures.value ∙ c.format.ensures.text ∙ ap decimal c.get.ensures.value in
    let puts = subst (λ t. Puts old.writer new (record_text t c.args.words.now)) text c.push.ensures.puts in
    with_failed old.failed new.broken old.number new _ kept sound.0
    (noted old.number c.args.now c.args.words.now command old.writer new events kept sound.1 puts c.requires.short c.get.ensures.small is formed (without_failed old.failed old.writer.broken old.number old.writer events kept sound.0 log))
