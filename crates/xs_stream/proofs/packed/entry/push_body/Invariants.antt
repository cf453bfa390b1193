use Rattle.std.proofs.Common.{◌≡◌, ◌++◌, take}
use Rattle.std.specs.List.{flat_map}
use Rattle.xs_stream.specs.Packed.{field_code}
use Rattle.xs_stream.specs.PackedNumber.{number_code}
use Rattle.xs_stream.proofs.packed.entry.push_body.Given as goal

-- the fields so far
abbrev pub invariant-loop-field : goal.invariant-loop-field
invariant-loop-field l = l.out.items ≡ l.fn.out.items ++ (number_code l.mark ++ flat_map (field_code l.shared) (take l.field-index l.fields))
