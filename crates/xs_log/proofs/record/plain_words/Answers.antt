use Rattle.xs_log.proofs.PlainWords.{not_escaped}
use Rattle.xs_log.proofs.record.plain_words.Goals as goal

pub returns-in-Ok-None-clause-damaged : goal.returns-in-Ok-None-clause-damaged
returns-in-Ok-None-clause-damaged c = λ e all. not_escaped c.args.sent c.loop-text.words.items c.loop-text.left c.in-Some.behind all c.in-Some.text.now c.loop-text.invariant c.in-Some.ensures (rw c.in-Ok-None.field-0-is at c.in-Ok-None.ensures)
