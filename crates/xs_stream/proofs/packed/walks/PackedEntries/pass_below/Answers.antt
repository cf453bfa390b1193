use Rattle.std.proofs.Common.{◌≡◌, ◌+◌, ◌<◌, ◌≤◌, ◌∙◌, true, sym, ap, subst, arith, drop}
use Rattle.xs_stream.specs.Id.{is_below}
use Rattle.xs_stream.specs.Packed.{after_entry, after_entries, entry_id}
use Rattle.xs_stream.specs.PassedEntries.{packed_ids, AllBelow}
use Rattle.xs_stream.proofs.Order.{earlier-below}
use Rattle.xs_stream.proofs.PackedBlocks.{after_entries-more}
use Rattle.xs_stream.proofs.PassedEntries.{below-more}
use Rattle.xs_stream.proofs.packed.walks.PackedEntries.pass_below.Goals as goal

pub loop-passed-init : goal.loop-passed-init
loop-passed-init c = record {
  rest = c.after-rest.ensures;
  below = tt;
}

pub returns-in_default-after_early_entry-clause-rest : goal.returns-in_default-after_early_entry-clause-rest
returns-in_default-after_early_entry-clause-rest c = c.loop-passed.invariant.rest

pub returns-in_default-after_early_entry-clause-below : goal.returns-in_default-after_early_entry-clause-below
returns-in_default-after_early_entry-clause-below c = c.loop-passed.invariant.below

pub loop-passed-preserved : goal.loop-passed-preserved
loop-passed-preserved c =
    let packed = c.args.self.now in let base = packed.base in let low = c.args.low in let bytes = drop packed.start packed.bytes.now in let passed = c.loop-passed.passed in
    let was = c.loop-passed.invariant in
    let next = c.in-Some-after_early_entry.ensures in
    let in_time : base + c.min-ms.result ≤ low.ms = omega (arith, c.min-ms.ensures, c.in-Some.ensures.0, c.in-Some.ensures.1) in
    let entry = entry_id base c.loop-passed.rest.now in
    let no_later : entry.ms ≤ low.ms = omega (arith, next.ms base, in_time) in
    let lower : low.ms ≤ entry.ms → entry.seq < low.seq = λ h. omega (arith, next.seq base (omega (arith, h, in_time)), c.min-seq.ensures) in
    let below : is_below entry low ≡ true = earlier-below entry low no_later lower in
    record {
      rest = next.rest ∙ ap after_entry was.rest ∙ sym (after_entries-more passed bytes);
      below = below-more base low passed bytes was.below (subst (λ rest. is_below (entry_id base rest) low ≡ true) was.rest below);
    }

pub returns-clause-rest : goal.returns-clause-rest
returns-clause-rest c =
    let packed = c.args.self.now in
    let all : c.loop-passed.passed ≡ packed.count = omega (arith, c.loop-passed-test.false, c.loop-passed.auto.passed-end) in
    c.loop-passed.invariant.rest ∙ ap (λ n. after_entries n (drop packed.start packed.bytes.now)) all

pub returns-clause-below : goal.returns-clause-below
returns-clause-below c =
    let packed = c.args.self.now in
    let all : c.loop-passed.passed ≡ packed.count = omega (arith, c.loop-passed-test.false, c.loop-passed.auto.passed-end) in
    subst (λ n. AllBelow c.args.low (packed_ids packed.base n (drop packed.start packed.bytes.now))) all c.loop-passed.invariant.below
