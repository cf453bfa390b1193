use Rattle.std.proofs.Common.{◌++◌, List, length, take_all, ap, ◌∙◌}
use Rattle.std.specs.List.{flat_map}
use Rattle.xs_stream.specs.declared.field.Field.{Field}
use Rattle.xs_stream.specs.Packed.{names_code}
use Rattle.xs_stream.specs.PackedNumber.{number_code}
use Rattle.xs_stream.specs.PackedText.{text_code}
use Rattle.xs_stream.proofs.packed.entry.names_size.Goals as goal

pub returns : goal.returns
unfolding names_code
returns c =
    let fields = c.args.fields.now in
    c.loop-field.invariant ∙ ap (λ (fs : List Field). length (number_code (length fields) ++ flat_map (λ f. text_code f.name) fs)) (take_all c.loop-field.field-index fields c.loop-field-test.false)
