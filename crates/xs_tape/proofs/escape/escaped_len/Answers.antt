use Rattle.std.proofs.Common.{length, sym, ap, ◌∙◌, arith}
use Rattle.xs_tape.proofs.Runs.{plain_all}
use Rattle.xs_tape.proofs.escape.escaped_len.Goals as goal

pub returns-then-plain-word : goal.returns-then-plain-word
returns-then-plain-word c = c.if-plain-word.true ∙ sym (ap length (plain_all c.args.word.now c.plain_len-plain.result (omega (arith, c.if-plain-word.true)) c.plain_len-plain.ensures.plain))
