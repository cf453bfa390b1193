use Rattle.std.proofs.Common.{sym, ap, ◌∙◌, Some, ◌-◌, ◌+◌}
use Rattle.xs_stream.specs.StreamContent.{fields_at}
use Rattle.xs_stream.specs.PackedText.{first_text}
use Rattle.xs_stream.specs.Packed.{packed_entries, body_fields}
use Rattle.xs_stream.proofs.PackedBlocks.{lookup-passed, lookup-found}
use Rattle.xs_stream.proofs.PassedEntries.{lookup-start}
use Rattle.xs_stream.proofs.packed.walks.PackedEntries.fields_of.Goals as goal

pub loop-init : goal.loop-init
loop-init c =
    let passed = c.pass_below-passed in
    lookup-start c.args.self.now passed.result.0 passed.result.1.now passed.ensures.few passed.ensures.rest c.args.id passed.ensures.below

pub loop-preserved : goal.loop-preserved
loop-preserved c =
    let entry = c.read_entry-entry in
    let packed = c.args.self.now in let names = first_text packed.bytes.now in
    c.loop.invariant ∙ lookup-passed packed.base names packed.count c.loop.counter c.args.id entry.result.id c.loop.rest.now c.loop-test.true entry.ensures.id (sym c.eq.ensures ∙ c.if-eq.false)
    ∙ ap (λ rest. fields_at (packed_entries packed.base names (packed.count - (c.loop.counter + 1)) rest) c.args.id) (sym entry.ensures.rest)

pub returns-then-eq : goal.returns-then-eq
returns-then-eq c =
    let entry = c.read_entry-entry in
    let packed = c.args.self.now in let names = first_text packed.bytes.now in
    sym (c.loop.invariant ∙ lookup-found packed.base names packed.count c.loop.counter c.args.id entry.result.id c.loop.rest.now c.loop-test.true entry.ensures.id (sym c.eq.ensures ∙ c.if-eq.true)
    ∙ ap (λ body. Some (body_fields names body)) (sym entry.ensures.body) ∙ ap (λ ns. Some (body_fields ns entry.result.body.now)) (sym c.read_text.ensures.text) ∙ ap Some (sym c.new.ensures))
