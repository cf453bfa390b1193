use Rattle.std.proofs.Common.{sym, subst, arith}
use Rattle.xs_tape.specs.Writing.{Puts}
use Rattle.xs_tape.proofs.Escapes.{short-plain}
use Rattle.xs_tape.proofs.Zeros.{plain_no_zero}
use Rattle.xs_tape.proofs.log_writer.LogWriter.put_escaped.Goals as goal

pub put-requires-clause-bytes : goal.put-requires-clause-bytes
put-requires-clause-bytes g c = plain_no_zero c.args.word.now (short-plain c.args.word.now (omega (arith, c.requires.size, c.if-size-word.true)))

pub returns-then-size-word-clause-puts : goal.returns-then-size-word-clause-puts
returns-then-size-word-clause-puts g c = subst (λ t. Puts c.args.self.now c.put.new.self t) (sym (short-plain c.args.word.now (omega (arith, c.requires.size, c.if-size-word.true)))) c.put.ensures.puts
