use Rattle.std.proofs.Common.{◌≡◌, ◌++◌, decimal, refl}
use Rattle.xs_server.proofs.Reports.{fails-before, follows}
use Rattle.xs_server.proofs.report.say_number.Goals as goal

pub returns-then-not-say : goal.returns-then-not-say
returns-then-not-say g c = fails-before c.args.front.now (decimal c.args.number ++ c.args.back.now) _ _ _ c.say.ensures.said (c.if-not-say.ensures.part refl)

pub returns-then-not-say-2 : goal.returns-then-not-say-2
returns-then-not-say-2 g c =
    let same : c.as_bytes-number.result.now ≡ decimal c.args.number = cc in
    let said = rw same at c.say-2.ensures.said in
    follows c.args.front.now (decimal c.args.number ++ c.args.back.now) _ _ _ _ (c.if-not-say.ensures.whole refl)
    (fails-before (decimal c.args.number) c.args.back.now _ _ _ said (c.if-not-say-2.ensures.part refl))

pub returns : goal.returns
returns g c =
    let same : c.as_bytes-number.result.now ≡ decimal c.args.number = cc in
    let whole = rw same at (c.if-not-say-2.ensures.whole refl) in
    follows c.args.front.now (decimal c.args.number ++ c.args.back.now) _ _ _ _ (c.if-not-say.ensures.whole refl)
    (follows (decimal c.args.number) c.args.back.now _ _ _ _ whole c.say-3.ensures.said)
