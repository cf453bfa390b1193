use Rattle.std.proofs.Common.{[], take, length, inr, ap, arith}
use Rattle.std.proofs.lemmas.List.{append-nil}
use Rattle.xs_io.proofs.Passing.{Appends-nil}
use Rattle.xs_script.proofs.ScriptSteps.{after-written, stands-broken}
use Rattle.xs_script.proofs.run.send_on.Goals as goal

pub returns-then-len-lt-WRITE_BYTES-clause-sends : goal.returns-then-len-lt-WRITE_BYTES-clause-sends
returns-then-len-lt-WRITE_BYTES-clause-sends g c = λ keyspace read sent s. ([], Appends-nil _, rw (append-nil sent) s)

pub returns-in-Ok-clause-sends : goal.returns-in-Ok-clause-sends
returns-in-Ok-clause-sends g c = λ keyspace read sent s.
    let ok = c.in-Ok.ensures in
    (c.args.script.now.owed.items, ok.sent, after-written read sent c.args.script.now c.send.new.script keyspace s ok.paid)

pub returns-in-Ok-clause-few : goal.returns-in-Ok-clause-few
returns-in-Ok-clause-few g c =
    let ok = c.in-Ok.ensures in
    (omega (arith, ap length ok.paid.owed), inr (c.args.script.now.owed.items, ok.sent, omega (arith, c.if-len-lt-WRITE_BYTES.false)))

pub returns-in-Err-clause-sends : goal.returns-in-Err-clause-sends
returns-in-Err-clause-sends g c = λ keyspace read sent s.
    let (count, few, went, is) = c.in-Err.ensures.err in
    (take count c.args.script.now.owed.items, went, stands-broken read sent c.args.script.now keyspace c.in-Err.end s count few is)
