use Rattle.std.proofs.Common.{◌++◌, length, subst}
use Rattle.xs_resp.specs.Line.{crlf, line}
use Rattle.xs_tape.specs.Escape.{escaped}
use Rattle.xs_tape.specs.Writing.{Puts}
use Rattle.xs_tape.proofs.Puts.{puts_broken, two_broken}
use Rattle.xs_tape.proofs.log_writer.LogWriter.put_word.Goals as goal

pub returns-in_err-put_line-clause-puts : goal.returns-in_err-put_line-clause-puts
returns-in_err-put_line-clause-puts g c =
    let text = escaped c.args.word.now in
    let head = subst (λ n. Puts c.args.self.now c.put_line.new.self (line 36 n)) c.escaped_len-size.ensures c.in_err-put_line.ensures.puts in
    puts_broken c.args.self.now c.put_line.new.self (line 36 (length text)) (text ++ crlf) c.in_err-put_line.ensures.fault head

pub returns-in_err-put_escaped-clause-puts : goal.returns-in_err-put_escaped-clause-puts
returns-in_err-put_escaped-clause-puts g c =
    let text = escaped c.args.word.now in
    let head = subst (λ n. Puts c.args.self.now c.put_line.new.self (line 36 n)) c.escaped_len-size.ensures c.in_ok-put_line.ensures.puts in
    two_broken c.args.self.now c.put_line.new.self c.put_escaped.new.self (line 36 (length text)) text crlf c.in_err-put_escaped.ensures.fault head c.in_err-put_escaped.ensures.puts
