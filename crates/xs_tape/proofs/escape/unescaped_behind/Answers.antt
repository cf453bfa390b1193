use Rattle.std.proofs.Common.{length, ap, arith}
use Rattle.xs_tape.proofs.Walks.{no_word, whole_rest}
use Rattle.xs_tape.proofs.escape.unescaped_behind.Goals as goal

pub returns-in_default : goal.returns-in_default
returns-in_default c = no_word c.args.text.now c.loop-rest.word.items c.loop-rest.rest.now c.loop-rest.invariant (λ e. grind (arith, ap length e, c.is_empty.ensures, c.loop-rest-test.true)) c.in_default.ensures.some

pub loop-rest-preserved : goal.loop-rest-preserved
loop-rest-preserved c = whole_rest c.args.text.now c.loop-rest.word.items c.push.new.self.items c.loop-rest.rest.now c.in-Some.behind.now c.in-Some.byte c.loop-rest.invariant c.in-Some.ensures.some c.in_ok-push.ensures.items
