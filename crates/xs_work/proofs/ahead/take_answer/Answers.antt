use Rattle.std.proofs.Common.{◌++◌, ◌∷◌, []}
use Rattle.xs_work.proofs.AheadCalls.{calls-taken}
use Rattle.xs_work.proofs.ahead.take_answer.Goals as goal

pub returns-in-Some-clause-after : goal.returns-in-Some-clause-after
returns-in-Some-clause-after c = λ first manner read asked put sent a.
    let answer = c.in-Some.answer in
    record {
      got = a.got ++ answer.reply ∷ [];
      after = c.hand_in.ensures.after manner read asked a.got sent a.after;
      calls = calls-taken first c.args.client.now c.take.new.self put a.got answer a.calls c.in-Some.ensures;
    }
