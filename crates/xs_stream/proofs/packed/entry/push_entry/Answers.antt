use Rattle.std.proofs.Common.{arith}
use Rattle.xs_stream.proofs.PackedCodes.{written-entry, kept-before, on_err-holds, appended-three}
use Rattle.xs_stream.proofs.packed.entry.push_entry.Goals as goal

pub returns-clause-ok : goal.returns-clause-ok
returns-clause-ok c =
    written-entry c.args.base c.args.shared c.args.id c.args.fields.now c.in-Some.size _ _ _ _ _ (omega arith) c.in_ok-push_number.ensures.ok c.in_ok-push_number-2.ensures.ok c.in_ok-push_number-3.ensures.ok c.in-Some.ensures c.in_ok-push_body.ensures.ok

pub returns-in_err-push_body-clause-err : goal.returns-in_err-push_body-clause-err
returns-in_err-push_body-clause-err c =
    let more = appended-three _ _ _ _ _ _ _ c.in_ok-push_number.ensures.ok c.in_ok-push_number-2.ensures.ok c.in_ok-push_number-3.ensures.ok in
    on_err-holds c.from_residual-in_err-push_body.result
    (kept-before c.args.out.now.items _ c.push_number-3.new.out.items c.push_body.new.out.items _ _ more c.in_err-push_body.ensures.err c.args.out.now.ok.0 c.push_number-3.new.out.ok.0)
