use Rattle.std.proofs.Common.{◌≡◌, true, length, take}
use Rattle.std.specs.List.{flat_map}
use Rattle.xs_stream.specs.Packed.{field_code}
use Rattle.xs_stream.proofs.packed.entry.values_size.Given as goal

-- the fields so far
abbrev pub invariant-loop-field : goal.invariant-loop-field
invariant-loop-field l = l.size ≡ length (flat_map (field_code true) (take l.field-index l.fields))
