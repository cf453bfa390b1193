use Rattle.std.proofs.Common.{◌∷◌, length, decimal, sym, ap, ◌∙◌, arith}
use Rattle.xs_resp.specs.Grammar.{sent_words}
use Rattle.xs_tape.proofs.Counts.{size_left, size_word}
use Rattle.xs_tape.proofs.Naturals.{spelled_once, same_number, no_number}
use Rattle.xs_tape.proofs.size.sized_words.Goals as goal

pub returns-in_default-natural : goal.returns-in_default-natural
returns-in_default-natural c = λ words is.
    let word = c.in-Some.word.now in
    let behind = c.in-Some.behind in
    let left = size_left c.args.sent.now behind word c.args.len c.len.result c.line_len.result c.line_len-2.result c.in-Some.ensures c.requires c.len.ensures.count (c.line_len.ensures.value 42) (c.line_len-2.ensures.value 36) in
    no_number word (length (sent_words behind)) (sym c.natural.ensures ∙ c.in_default-natural.is) (omega (arith, left, c.ranges.len)) (size_word c.args.sent.now behind words word c.in-Some.ensures is)

pub overflow_sub-len : goal.overflow_sub-len
overflow_sub-len c =
    omega (arith, size_left c.args.sent.now c.in-Some.behind c.in-Some.word.now c.args.len c.len.result c.line_len.result c.line_len-2.result c.in-Some.ensures c.requires c.len.ensures.count (c.line_len.ensures.value 42) (c.line_len-2.ensures.value 36))

pub returns-then-size-len : goal.returns-then-size-len
returns-then-size-len c = λ words is.
    let word = c.in-Some.word.now in
    let behind = c.in-Some.behind in
    let left = size_left c.args.sent.now behind word c.args.len c.len.result c.line_len.result c.line_len-2.result c.in-Some.ensures c.requires c.len.ensures.count (c.line_len.ensures.value 42) (c.line_len-2.ensures.value 36) in
    let same = same_number word c.in-Some-natural.size (length (sent_words behind)) (sym c.natural.ensures ∙ c.in-Some-natural.is) (omega (arith, left, c.ranges.len)) (size_word c.args.sent.now behind words word c.in-Some.ensures is) in
    c.if-size-len.true (omega (arith, same, left))

pub returns : goal.returns
returns c =
    let word = c.in-Some.word.now in
    let behind = c.in-Some.behind in
    let left = size_left c.args.sent.now behind word c.args.len c.len.result c.line_len.result c.line_len-2.result c.in-Some.ensures c.requires c.len.ensures.count (c.line_len.ensures.value 42) (c.line_len-2.ensures.value 36) in
    c.in-Some.ensures ∙ ap (λ w. w ∷ behind) (spelled_once word c.in-Some-natural.size (sym c.natural.ensures ∙ c.in-Some-natural.is) ∙ ap decimal (omega (arith, left, c.if-size-len.false)))
