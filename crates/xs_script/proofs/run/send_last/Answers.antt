use Rattle.std.proofs.Common.{take, inl, inr}
use Rattle.xs_script.proofs.ScriptSteps.{ends-broken}
use Rattle.xs_script.proofs.run.send_last.Goals as goal

pub returns-in-Ok : goal.returns-in-Ok
returns-in-Ok g c = λ cause read sent ends. (c.args.script.now.owed.items, c.in-Ok.ensures.sent, inl ends.0)

pub returns-in-Err : goal.returns-in-Err
returns-in-Err g c = λ cause read sent ends.
    let (count, few, went, is) = c.in-Err.ensures.err in
    (take count c.args.script.now.owed.items, went, inr (ends-broken cause c.args.end c.in-Err.broken read sent c.args.script.now ends count few is, c.in-Err.ensures.cause))
