use Rattle.std.proofs.Common.{◌∙◌, ◌-◌, ◌+◌, ◌++◌, ◌∷◌, ap, arith, length, take, drop, sym}
use Rattle.std.proofs.lemmas.List.{length-drop}
use Rattle.std.specs.Option.{is_some}
use Rattle.std.specs.Map.{remove_entry}
use Rattle.xs_stream.specs.Id.{is_same_id}
use Rattle.xs_stream.specs.StreamContent.{fields_at}
use Rattle.xs_stream.specs.PackedText.{first_text}
use Rattle.xs_stream.specs.Packed.{packed_entries, after_entry, after_entries, entry_in, block_entries}
use Rattle.xs_stream.proofs.PackedBlocks.{after_entries-more, lookup-passed, lookup-found, removed-passed}
use Rattle.xs_stream.proofs.PackedBlocks.{removed-found, take-passed, drop-passed, length-after_entry}
use Rattle.xs_stream.proofs.PackedBlocks.{length-after_entries, joined}
use Rattle.xs_stream.proofs.PassedEntries.{lookup-start, removed-start}
use Rattle.xs_stream.proofs.packed.walks.PackedEntries.place_of.Goals as goal

pub loop-index-init : goal.loop-index-init
loop-index-init c =
    let packed = c.args.self.now in
    let passed = c.pass_below-passed in
    record {
      rest = passed.ensures.rest;
      lookup = lookup-start packed passed.result.0 passed.result.1.now passed.ensures.few passed.ensures.rest c.args.id passed.ensures.below;
      removed = removed-start packed passed.result.0 passed.result.1.now passed.ensures.few passed.ensures.rest c.args.id passed.ensures.below;
      short = omega (arith, ap length passed.ensures.rest, length-after_entries passed.result.0 (drop packed.start packed.bytes.now), length-drop packed.start packed.bytes.now);
    }

pub overflow_sub-to : goal.overflow_sub-to
overflow_sub-to c =
    omega (arith, c.loop-index.invariant.short, ap length c.read_entry-entry.ensures.rest, length-after_entry c.loop-index.rest.now)

pub returns-then-eq-clause-to : goal.returns-then-eq-clause-to
returns-then-eq-clause-to c =
    let bytes = c.args.self.now.bytes.now in
    let next = c.read_entry-entry.ensures.rest ∙ ap after_entry c.loop-index.invariant.rest ∙ sym (after_entries-more c.loop-index.index (drop c.args.self.now.start bytes)) in
    ap (λ rest. length bytes - length rest) next

pub returns-then-eq-clause-removed : goal.returns-then-eq-clause-removed
returns-then-eq-clause-removed c =
    let packed = c.args.self.now in let base = packed.base in let start = packed.start in let count = packed.count in let i = c.loop-index.index in let id = c.args.id in let bytes = packed.bytes.now in
    let names = first_text bytes in
    let entry = c.read_entry-entry in
    let was = c.loop-index.invariant in
    was.removed ∙ ap (λ left. take i (block_entries base count start bytes) ++ left)
    (removed-found base names count i id entry.result.id c.loop-index.rest.now c.loop-index-test.true entry.ensures.id (sym c.eq.ensures ∙ c.if-eq.true)
    ∙ ap (λ rest. packed_entries base names (count - (i + 1)) (after_entry rest)) was.rest ∙ sym (drop-passed base names count i (drop start bytes) c.loop-index-test.true))

pub returns-then-eq-clause-found : goal.returns-then-eq-clause-found
returns-then-eq-clause-found c =
    let packed = c.args.self.now in
    let entry = c.read_entry-entry in
    sym (ap is_some (c.loop-index.invariant.lookup
    ∙ lookup-found packed.base (first_text packed.bytes.now) packed.count c.loop-index.index c.args.id entry.result.id c.loop-index.rest.now c.loop-index-test.true entry.ensures.id (sym c.eq.ensures ∙ c.if-eq.true)))

pub loop-index-preserved : goal.loop-index-preserved
loop-index-preserved c =
    let packed = c.args.self.now in
    let entry = c.read_entry-entry in
    let other = sym c.eq.ensures ∙ c.if-eq.false in
    let base = packed.base in let start = packed.start in let count = packed.count in let i = c.loop-index.index in let id = c.args.id in let bytes = packed.bytes.now in
    let names = first_text bytes in
    let rest = drop start bytes in
    let was = c.loop-index.invariant in
    record {
      rest = entry.ensures.rest ∙ ap after_entry was.rest ∙ sym (after_entries-more i rest);
      lookup = was.lookup ∙ lookup-passed base names count i id entry.result.id c.loop-index.rest.now c.loop-index-test.true entry.ensures.id other
          ∙ ap (λ rest. fields_at (packed_entries base names (count - (i + 1)) rest) id) (sym entry.ensures.rest);
      removed = was.removed ∙ ap (λ left. take i (block_entries base count start bytes) ++ left) (removed-passed base names count i id entry.result.id c.loop-index.rest.now c.loop-index-test.true entry.ensures.id other)
          ∙ ap (λ r. take i (block_entries base count start bytes) ++ (entry_in base names r ∷ remove_entry (is_same_id id) (packed_entries base names (count - (i + 1)) (after_entry c.loop-index.rest.now)))) was.rest
          ∙ ap (λ r. take i (block_entries base count start bytes) ++ (entry_in base names (after_entries i rest) ∷ remove_entry (is_same_id id) (packed_entries base names (count - (i + 1)) r))) (sym entry.ensures.rest)
          ∙ joined (take i (block_entries base count start bytes)) (take (i + 1) (block_entries base count start bytes)) _ _ (take-passed base names count i rest c.loop-index-test.true);
      short = omega (arith, was.short, ap length entry.ensures.rest, length-after_entry c.loop-index.rest.now);
    }
