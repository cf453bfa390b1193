use Rattle.std.proofs.Common.{◌≡◌, List, ◌++◌, take, take_all, ap, ◌∙◌}
use Rattle.std.specs.List.{flat_map}
use Rattle.xs_stream.specs.declared.field.Field.{Field}
use Rattle.xs_stream.specs.Packed.{field_code, body_code}
use Rattle.xs_stream.specs.PackedNumber.{number_code}
use Rattle.xs_stream.proofs.PackedCodes.{kept-before, on_err-holds}
use Rattle.xs_stream.proofs.packed.entry.push_body.Goals as goal

pub returns-in_err-push_field-clause-err : goal.returns-in_err-push_field-clause-err
returns-in_err-push_field-clause-err c =
    on_err-holds c.from_residual-in_err-push_field.result
    (kept-before c.args.out.now.items _ c.loop-field.out.items c.push_field.new.out.items _ _ c.loop-field.invariant c.in_err-push_field.ensures.err c.args.out.now.ok.0 c.loop-field.out.ok.0)

pub returns-clause-ok : goal.returns-clause-ok
unfolding body_code
returns-clause-ok c =
    let fields = c.args.fields.now in
    let all : take c.loop-field.field-index fields ≡ fields = take_all c.loop-field.field-index fields c.loop-field-test.false in
    c.loop-field.invariant ∙ ap (λ (fs : List Field). c.args.out.now.items ++ (number_code c.in-Some.mark ++ flat_map (field_code c.args.shared) fs)) all
    ∙ ap (λ mark. c.args.out.now.items ++ (number_code mark ++ flat_map (field_code c.args.shared) fields)) c.in-Some.ensures
