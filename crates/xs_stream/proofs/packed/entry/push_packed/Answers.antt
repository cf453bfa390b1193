use Rattle.std.proofs.Common.{arith, take_all}
use Rattle.xs_stream.proofs.PackedCodes.{written-packed, kept-more, kept-first, on_err-holds}
use Rattle.xs_stream.proofs.packed.entry.push_packed.Goals as goal

pub returns-clause-ok : goal.returns-clause-ok
returns-clause-ok c = written-packed c.args.base c.args.id _ _ _ _ _ (omega arith) c.in_ok-push_number.ensures.ok c.in_ok-push_number-2.ensures.ok c.in_ok-push_text.ensures.ok

pub returns-in_err-push_text-clause-err : goal.returns-in_err-push_text-clause-err
returns-in_err-push_text-clause-err c =
    let out = c.args.out.now in
    let first = kept-more out.items out.items _ _ _ (take_all _ out.items (omega (arith, out.ok.0))) out.ok.0 c.in_ok-push_number.ensures.ok in
    let second = kept-more out.items _ _ _ _ first out.ok.0 c.in_ok-push_number-2.ensures.ok in
    on_err-holds c.from_residual-in_err-push_text.result (kept-first out.items _ _ _ _ second out.ok.0 c.in_err-push_text.ensures.err c.push_number-2.new.out.ok.0)
