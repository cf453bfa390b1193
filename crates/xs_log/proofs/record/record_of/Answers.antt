use Rattle.std.proofs.Common.{map}
use Rattle.xs_tape.specs.Escape.{escaped}
use Rattle.xs_log.proofs.PlainWords.{of_size, not_sized}
use Rattle.xs_log.proofs.record.record_of.Goals as goal

pub returns-in_default-clause-damaged : goal.returns-in_default-clause-damaged
returns-in_default-clause-damaged c = λ e words. c.in_default.ensures (map escaped words)

pub returns-clause-ok : goal.returns-clause-ok
returns-clause-ok c = of_size c.plain_words.result (λ words. words.items) c.args.sent.now c.in-Some.behind c.in-Some.ensures c.plain_words.ensures.ok

pub returns-clause-damaged : goal.returns-clause-damaged
returns-clause-damaged c = λ e words. not_sized c.args.sent.now c.in-Some.behind (map escaped words) c.in-Some.ensures (c.plain_words.ensures.damaged e words)
