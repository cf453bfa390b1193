use Rattle.xs_tape.proofs.Heads.{no_second, head_found}
use Rattle.xs_tape.proofs.head.size_in_head.Goals as goal

pub returns-in_default-marked_line : goal.returns-in_default-marked_line
returns-in_default-marked_line c = λ size behind.
    no_second c.args.part.now c.in-Some.words.now c.in-Some._count size behind c.in-Some.ensures.small c.in-Some.ensures.line c.in_default-marked_line.ensures.line

pub returns : goal.returns
returns c =
    head_found (λ b. b.now) c.number_line.result c.args.part.now c.in-Some.words.now c.in-Some-marked_line.text.now c.in-Some._count c.in-Some-marked_line._digits
    c.in-Some.ensures.small c.in-Some-marked_line.ensures.small c.in-Some.ensures.line c.in-Some-marked_line.ensures.line c.number_line.ensures.line c.number_line.ensures.small
