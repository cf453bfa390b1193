use Rattle.std.proofs.Common.{◌≡◌, ◌-◌, ◌^◌, min, true, fold, take}
use Rattle.std.specs.List.{list_all}
use Rattle.xs_bytes.specs.Number.{is_digit, with_digit}
use Rattle.xs_resp.proofs.header.digits.Given as goal

-- the bytes read so far are digits and have this value
abbrev pub invariant-loop-byte : goal.invariant-loop-byte
invariant-loop-byte l =
    (l.value ≡ min (2 ^ 64 - 1) (fold with_digit 0 (take l.byte-index l.text))) × (list_all is_digit (take l.byte-index l.text) ≡ true)
