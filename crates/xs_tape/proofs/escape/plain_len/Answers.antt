use Rattle.std.proofs.Common.{sym, subst}
use Rattle.xs_tape.proofs.Searches.{IsPlain, plain_part}
use Rattle.xs_tape.proofs.escape.plain_len.Goals as goal

pub returns : goal.returns
returns c =
    let is = subst (IsPlain c.args.text.now) (sym c.unwrap_or.ensures) (plain_part c.args.text.now c.memchr2.result c.memchr2.ensures) in
    record { within = is.within; plain = is.plain }
