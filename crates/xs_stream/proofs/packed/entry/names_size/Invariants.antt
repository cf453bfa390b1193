use Rattle.std.proofs.Common.{◌≡◌, ◌++◌, length, take}
use Rattle.std.specs.List.{flat_map}
use Rattle.xs_stream.specs.PackedNumber.{number_code}
use Rattle.xs_stream.specs.PackedText.{text_code}
use Rattle.xs_stream.proofs.packed.entry.names_size.Given as goal

-- the names so far
abbrev pub invariant-loop-field : goal.invariant-loop-field
invariant-loop-field l = l.size ≡ length (number_code (length l.fields) ++ flat_map (λ f. text_code f.name) (take l.field-index l.fields))
