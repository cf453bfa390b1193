use Rattle.std.proofs.Common.{◌≡◌, ◌-◌, ◌∙◌, sym, ap, arith}
use Rattle.xs_stream.specs.Packed.{shares_names}
use Rattle.xs_stream.proofs.PackedBlocks.{shares-passed, shares-found, shares-none}
use Rattle.xs_stream.proofs.packed.walks.PackedEntries.shares_names.Goals as goal

pub loop-init : goal.loop-init
loop-init c =
    let all : c.args.self.now.count - 0 ≡ c.args.self.now.count = omega arith in
    ap (shares_names c.args.self.now.count) (sym c.after-rest.ensures) ∙ sym (ap (λ count. shares_names count c.after-rest.result.now) all)

pub loop-preserved : goal.loop-preserved
loop-preserved c =
    let entry = c.read_entry-entry in
    c.loop.invariant ∙ shares-passed c.args.self.now.count c.loop.counter _ c.loop.rest.now _ c.loop-test.true entry.ensures.body c.read_number-mark.ensures.number _ entry.ensures.rest c.if-mark-eq0.false

pub returns-then-mark-eq0 : goal.returns-then-mark-eq0
returns-then-mark-eq0 c =
    sym (c.loop.invariant ∙ shares-found c.args.self.now.count c.loop.counter _ c.loop.rest.now _ c.loop-test.true c.read_entry-entry.ensures.body c.read_number-mark.ensures.number c.if-mark-eq0.true)

pub returns : goal.returns
returns c = sym (c.loop.invariant ∙ shares-none c.args.self.now.count c.loop.counter c.loop.rest.now c.loop-test.false)
