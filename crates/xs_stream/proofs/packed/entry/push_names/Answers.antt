use Rattle.std.proofs.Common.{◌++◌, List, length, take_all, ap, ◌∙◌}
use Rattle.std.specs.List.{flat_map}
use Rattle.xs_stream.specs.declared.field.Field.{Field}
use Rattle.xs_stream.specs.PackedNumber.{number_code}
use Rattle.xs_stream.specs.PackedText.{text_code}
use Rattle.xs_stream.proofs.PackedCodes.{written-names}
use Rattle.xs_stream.proofs.packed.entry.push_names.Goals as goal

pub returns : goal.returns
returns c =
    let fields = c.args.fields.now in
    let out = c.args.out.now.items in
    let all = take_all c.loop-field.field-index fields c.loop-field-test.false in
    c.loop-field.invariant ∙ ap (λ (fs : List Field). out ++ (number_code c.in-Some.size ++ (number_code (length fields) ++ flat_map (λ f. text_code f.name) fs))) all
    ∙ ap (λ names. out ++ names) (written-names fields c.in-Some.size c.in-Some.ensures)
