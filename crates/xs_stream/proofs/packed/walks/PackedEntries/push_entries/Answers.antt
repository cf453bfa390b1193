use Rattle.std.proofs.Common.{◌∙◌, ◌++◌, ◌∷◌, [], List, sym, ap, arith, length, take}
use Rattle.xs_stream.specs.declared.id.Id.{Id}
use Rattle.xs_stream.specs.declared.field.Field.{Field}
use Rattle.xs_stream.specs.StreamContent.{is_within}
use Rattle.xs_stream.specs.Packed.{body_fields}
use Rattle.xs_stream.specs.PackedText.{first_text}
use Rattle.xs_stream.proofs.PackedBlocks.{shown-taken, shown-left}
use Rattle.xs_stream.proofs.PassedEntries.{within-start}
use Rattle.xs_stream.proofs.packed.walks.PackedEntries.push_entries.Goals as goal
use Rattle.xs_stream.proofs.packed.walks.PackedEntries.push_entries.Goals.{then-contains+in_ok-push, else-contains}

pub loop-init : goal.loop-init
loop-init c =
    let passed = c.pass_below-passed in
    record {
      all = ap (λ es. take c.args.most (c.args.shown.now.items ++ es)) (within-start c.args.self.now passed.result.0 passed.result.1.now passed.ensures.few passed.ensures.rest c.args.range passed.ensures.below);
      few = c.requires;
    }

pub loop-preserved : goal.loop-preserved
loop-preserved c =
    let entry = c.read_entry-entry in
    let packed = c.args.self.now in let names = first_text packed.bytes.now in
    elim c.if-contains.branch [
      | then-contains+in_ok-push w ↦
          let fields = w.new.ensures ∙ ap (λ n. body_fields n entry.result.body.now) c.read_text.ensures.text ∙ ap (body_fields names) entry.ensures.body in
          record {
            all = shown-taken (λ x. is_within c.args.range x) packed.base names packed.count c.loop.counter entry.result.id c.loop.rest.now entry.result.rest.now c.loop-test.true entry.ensures.id entry.ensures.rest
                c.args.most w.new.result _ c.loop.shown.items c.if-contains.shown.items (sym c.contains.ensures ∙ w.if-contains.true) fields
                (ap (λ x. x.items) w.shown-is ∙ w.in_ok-push.ensures.items ∙ ap (λ (e : Id × List Field). c.loop.shown.items ++ e ∷ []) w.new-then-contains.ensures) c.loop.invariant.all;
            few = omega (arith, ap (λ x. x.len) w.shown-is, w.in_ok-push.ensures.len, c.len.ensures, c.if-len-most.false, c.if-contains.shown.ok.0);
          }
      | else-contains w ↦ record {
        all = shown-left (λ x. is_within c.args.range x) packed.base names packed.count c.loop.counter entry.result.id c.loop.rest.now entry.result.rest.now c.loop-test.true entry.ensures.id entry.ensures.rest
            c.args.most _ c.loop.shown.items c.if-contains.shown.items (sym c.contains.ensures ∙ w.if-contains.false) (ap (λ x. x.items) w.shown-is) c.loop.invariant.all;
        few = omega (arith, ap (λ x. length x.items) w.shown-is, c.loop.invariant.few);
      }
    ]
