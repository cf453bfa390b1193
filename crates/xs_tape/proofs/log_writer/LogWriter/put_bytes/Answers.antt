use Rattle.std.proofs.Common.{◌+◌}
use Rattle.xs_tape.proofs.Zeros.{plain_no_zero}
use Rattle.xs_tape.proofs.Runs.{plain_slice, plain_end, passed, passed_all, passed_broken, passed_escaped, passed_plain}
use Rattle.xs_tape.proofs.log_writer.LogWriter.put_bytes.Goals as goal
use Rattle.xs_tape.proofs.log_writer.LogWriter.put_bytes.Goals.{then-byte-le1+in_ok-put_run, else-byte-le1}

pub put_run-requires-clause-plain : goal.put_run-requires-clause-plain
put_run-requires-clause-plain g c = plain_slice c.args.word.now c.loop-at.done c.loop-at.at c.loop-at.invariant.2 c.loop-at.invariant.3

pub returns-in_err-put_run-clause-puts : goal.returns-in_err-put_run-clause-puts
returns-in_err-put_run-clause-puts g c =
    let so_far = c.loop-at.invariant in
    let word = c.args.word.now in
    passed_broken c.args.self.now c.put_run.new.self word (c.loop-at.at + 1) c.in_err-put_run.ensures.fault
    (passed c.args.self.now c.loop-at.self c.put_run.new.self word c.loop-at.done c.loop-at.at so_far.2 c.loop-at-test.true so_far.3 so_far.0 c.in_err-put_run.ensures.puts)

pub loop-at-preserved : goal.loop-at-preserved
loop-at-preserved g c =
    let old = c.args.self.now in
    let here = c.loop-at.self in
    let self = c.if-byte-le1.self in
    let word = c.args.word.now in
    elim c.if-byte-le1.branch [
      | then-byte-le1+in_ok-put_run w ↦ passed_escaped old here w.put_run.new.self self word c.loop-at.done c.loop-at.at c.if-byte-le1.done c.loop-at.invariant c.loop-at-test.true w.in_ok-put_run.ensures.puts w.in_ok-put_run.ensures.fault
          w.self-is w.done-is
      | else-byte-le1 w ↦ passed_plain old here self word c.loop-at.done c.loop-at.at c.if-byte-le1.done c.loop-at.invariant c.loop-at-test.true w.if-byte-le1.false w.self-is w.done-is
    ]

pub put-requires-clause-bytes : goal.put-requires-clause-bytes
put-requires-clause-bytes g c =
    let so_far = c.loop-at.invariant in
    plain_no_zero _ (plain_end c.args.word.now c.loop-at.done c.loop-at.at so_far.2 c.loop-at-test.false c.loop-at.auto.at-end so_far.3)

pub returns-clause-puts : goal.returns-clause-puts
returns-clause-puts g c =
    let so_far = c.loop-at.invariant in
    passed_all c.args.self.now c.loop-at.self c.put.new.self c.args.word.now c.loop-at.done c.loop-at.at so_far.2 c.loop-at-test.false c.loop-at.auto.at-end so_far.3 so_far.0 c.put.ensures.puts
