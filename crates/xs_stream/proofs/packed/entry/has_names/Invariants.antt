use Rattle.std.proofs.Common.{◌≡◌, drop}
use Rattle.xs_stream.specs.Packed.{all_named}
use Rattle.xs_stream.specs.PackedNumber.{after_number}
use Rattle.xs_stream.proofs.packed.entry.has_names.Given as goal

-- it is decided by the names that are left
abbrev pub invariant-loop-field : goal.invariant-loop-field
invariant-loop-field l = all_named (after_number l.names) l.fields ≡ all_named l.rest (drop l.field-index l.fields)
