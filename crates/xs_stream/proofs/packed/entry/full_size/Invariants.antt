use Rattle.std.proofs.Common.{false, ◌≡◌, ◌++◌, length, take}
use Rattle.std.specs.List.{flat_map}
use Rattle.xs_stream.specs.Packed.{field_code, mark_of}
use Rattle.xs_stream.specs.PackedNumber.{number_code}
use Rattle.xs_stream.proofs.packed.entry.full_size.Given as goal

-- the fields so far
abbrev pub invariant-loop-field : goal.invariant-loop-field
invariant-loop-field l = l.size ≡ length (number_code (mark_of false l.fields) ++ flat_map (field_code false) (take l.field-index l.fields))
