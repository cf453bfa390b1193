use Rattle.std.proofs.Common.{◌≡◌, ◌<◌, true, fold, take}
use Rattle.std.specs.List.{list_all}
use Rattle.xs_bytes.specs.Number.{with_digit, is_digit}
use Rattle.xs_bytes.proofs.decimal.number.Given as goal

-- the bytes read so far are digits and have this value
abbrev pub invariant-loop-byte : goal.invariant-loop-byte
invariant-loop-byte l =
    (l.value ≡ fold with_digit 0 (take l.byte-index l.text)) × (list_all is_digit (take l.byte-index l.text) ≡ true) × (l.value < 18446744073709551616)
