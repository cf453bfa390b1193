use Rattle.std.proofs.Common.{false, ◌++◌, List, length, take_all, ap, ◌∙◌}
use Rattle.std.specs.List.{flat_map}
use Rattle.xs_stream.specs.declared.field.Field.{Field}
use Rattle.xs_stream.specs.Packed.{body_code, field_code, mark_of}
use Rattle.xs_stream.specs.PackedNumber.{number_code}
use Rattle.xs_stream.proofs.packed.entry.full_size.Goals as goal

pub returns : goal.returns
unfolding body_code
returns c =
    let fields = c.args.fields.now in
    c.loop-field.invariant ∙ ap (λ (fs : List Field). length (number_code (mark_of false fields) ++ flat_map (field_code false) fs)) (take_all c.loop-field.field-index fields c.loop-field-test.false)
