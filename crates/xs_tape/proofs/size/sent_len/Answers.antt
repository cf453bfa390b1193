use Rattle.std.proofs.Common.{◌++◌, length, ap, arith, length-append}
use Rattle.xs_resp.specs.Line.{crlf, line}
use Rattle.xs_tape.specs.Escape.{escaped}
use Rattle.xs_tape.proofs.size.sent_len.Goals as goal

pub overflow_add-result : goal.overflow_add-result
overflow_add-result c =
    let text = escaped c.args.word.now in
    let head = ap (λ n. length (line 36 n)) c.escaped_len-size.ensures in
    omega (arith, c.requires, c.escaped_len-size.ensures, c.line_len.ensures.value 36, head, length-append (line 36 (length text)) (text ++ crlf), length-append text crlf)

pub overflow_add-result-2 : goal.overflow_add-result-2
overflow_add-result-2 c =
    let text = escaped c.args.word.now in
    let head = ap (λ n. length (line 36 n)) c.escaped_len-size.ensures in
    omega (arith, c.requires, c.escaped_len-size.ensures, c.line_len.ensures.value 36, head, length-append (line 36 (length text)) (text ++ crlf), length-append text crlf)

pub returns : goal.returns
returns c =
    let text = escaped c.args.word.now in
    let head = ap (λ n. length (line 36 n)) c.escaped_len-size.ensures in
    omega (arith, c.escaped_len-size.ensures, c.line_len.ensures.value 36, head, length-append (line 36 (length text)) (text ++ crlf), length-append text crlf)
