use Rattle.std.proofs.Common.{◌≡◌, ◌≤◌, ◌+◌, ◌*◌, ◌^◌, drop}
use Rattle.xs_keys.specs.KeysRoom.{bytes_of_fields}
use Rattle.xs_keys.proofs.xadd.bytes_of.Given as goal

-- the fields that are counted and those that are left are all; a field has less than 2^65 bytes
abbrev pub invariant-loop-field : goal.invariant-loop-field
invariant-loop-field l =
    (l.bytes + bytes_of_fields (drop l.field-index l.fields) ≡ bytes_of_fields l.fields) × (l.bytes ≤ l.field-index * 2 ^ 65)
