use Rattle.std.proofs.Common.{List, true, length, take_all, ap, ◌∙◌}
use Rattle.std.specs.List.{flat_map}
use Rattle.xs_stream.specs.declared.field.Field.{Field}
use Rattle.xs_stream.specs.Packed.{field_code}
use Rattle.xs_stream.proofs.packed.entry.values_size.Goals as goal

pub returns : goal.returns
returns c =
    let fields = c.args.fields.now in
    c.loop-field.invariant ∙ ap (λ (fs : List Field). length (flat_map (field_code true) fs)) (take_all c.loop-field.field-index fields c.loop-field-test.false)
