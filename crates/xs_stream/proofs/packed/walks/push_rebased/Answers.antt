use Rattle.std.proofs.Common.{◌≡◌, ◌-◌, ◌++◌, sym, ap, take_all, arith}
use Rattle.xs_stream.specs.Packed.{rebased_codes}
use Rattle.xs_stream.proofs.PackedCodes.{kept-first, kept-more, on_err-holds}
use Rattle.xs_stream.proofs.PackedBlocks.{rebased-passed, rebased-all}
use Rattle.xs_stream.proofs.packed.walks.push_rebased.Goals as goal

pub loop-init : goal.loop-init
loop-init c =
    let all : c.args.count - 0 ≡ c.args.count = omega arith in
    record {
      all = sym (ap (λ n. c.args.out.now.items ++ rebased_codes c.args.base c.args.from n c.args.bytes.now) all);
      before = take_all _ c.args.out.now.items (omega (arith, c.args.out.now.ok.0));
    }

pub loop-preserved : goal.loop-preserved
loop-preserved c =
    let was = c.loop.invariant in
    let entry = c.read_entry-entry in
    let more = c.in_ok-push_packed.ensures.ok in
    record {
      all = rebased-passed c.args.base c.args.from c.args.count c.loop.counter c.loop.rest.now _ c.loop.out.items was.all entry.result.id _ _ _ c.loop-test.true entry.ensures.id entry.ensures.body entry.ensures.rest more;
      before = kept-more c.args.out.now.items c.loop.out.items _ _ _ was.before c.args.out.now.ok.0 more;
    }

pub returns-clause-ok : goal.returns-clause-ok
returns-clause-ok c = sym (rebased-all c.args.base c.args.from c.args.count c.loop.counter c.loop.rest.now _ c.loop.out.items c.loop.invariant.all c.loop-test.false)

pub returns-in_err-push_packed-clause-err : goal.returns-in_err-push_packed-clause-err
returns-in_err-push_packed-clause-err c =
    on_err-holds c.from_residual.result
    (kept-first c.args.out.now.items c.loop.out.items c.push_packed.new.out.items _ _ c.loop.invariant.before c.args.out.now.ok.0 c.in_err-push_packed.ensures.err c.loop.out.ok.0)
