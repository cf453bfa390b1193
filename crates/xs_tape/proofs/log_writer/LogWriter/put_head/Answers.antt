use Rattle.std.proofs.Common.{decimal, ap, ◌∙◌, subst, arith}
use Rattle.xs_resp.specs.Line.{line}
use Rattle.xs_resp.specs.Grammar.{sent_word}
use Rattle.xs_tape.specs.Escape.{escaped}
use Rattle.xs_tape.specs.Writing.{Puts}
use Rattle.xs_tape.proofs.Puts.{puts_broken, puts_join}
use Rattle.xs_tape.proofs.Zeros.{decimal_plain}
use Rattle.xs_tape.proofs.log_writer.LogWriter.put_head.Goals as goal

pub returns-in_err-put_line-clause-puts : goal.returns-in_err-put_line-clause-puts
returns-in_err-put_line-clause-puts g c =
    puts_broken c.args.self.now c.put_line.new.self (line 42 c.args.count) (sent_word (decimal c.args.size)) c.in_err-put_line.ensures.fault c.in_err-put_line.ensures.puts

pub returns-clause-puts : goal.returns-clause-puts
returns-clause-puts g c =
    let plain = ap escaped (c.as_bytes.ensures.value ∙ c.format.ensures.text) ∙ decimal_plain c.args.size (omega (arith, c.ranges.size)) in
    puts_join c.args.self.now c.put_line.new.self c.put_word.new.self (line 42 c.args.count) (sent_word (decimal c.args.size)) c.in_ok-put_line.ensures.puts
    (subst (λ t. Puts c.put_line.new.self c.put_word.new.self (sent_word t)) plain c.put_word.ensures.puts)
