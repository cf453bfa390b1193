use Rattle.std.proofs.Common.{sym, ◌∙◌}
use Rattle.xs_stream.proofs.PackedCodes.{has_names-missing, has_names-other_count, has_names-same_count, other_name}
use Rattle.xs_stream.proofs.PackedCodes.{none_left, true-not}
use Rattle.xs_stream.proofs.packed.entry.has_names.Goals as goal

pub returns-then-is_empty : goal.returns-then-is_empty
returns-then-is_empty c = has_names-missing c.args.names.now c.args.fields.now (sym c.if-is_empty.ensures)

pub returns-then-count-fields : goal.returns-then-count-fields
returns-then-count-fields c = has_names-other_count c.args.names.now c.args.fields.now _ (sym c.if-is_empty.ensures) c.read_number-count.ensures.number c.if-count-fields.true

pub returns-then-ne : goal.returns-then-ne
returns-then-ne c =
    let fields = c.args.fields.now in
    let same = has_names-same_count c.args.names.now fields _ (sym c.if-is_empty.ensures) c.read_number-count.ensures.number c.if-count-fields.false in
    sym (same ∙ c.loop-field.invariant ∙ other_name c.loop-field.rest.now fields c.loop-field.field-index c.field-item.result _ _ c.loop-field-test.true c.field-item.is c.read_text.ensures.text c.as_slice.ensures (true-not _ _ c.ne.ensures c.if-ne.true))

pub returns : goal.returns
returns c =
    let fields = c.args.fields.now in
    let same = has_names-same_count c.args.names.now fields _ (sym c.if-is_empty.ensures) c.read_number-count.ensures.number c.if-count-fields.false in
    sym (same ∙ c.loop-field.invariant ∙ none_left c.loop-field.rest.now fields c.loop-field.field-index c.loop-field-test.false)
