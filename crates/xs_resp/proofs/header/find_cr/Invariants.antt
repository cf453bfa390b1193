use Rattle.std.proofs.Common.{◌≡◌, ◌≤◌, ◌+◌, drop}
use Rattle.xs_resp.specs.Header.{text_len}
use Rattle.xs_resp.proofs.header.find_cr.Given as goal

-- the text before the first CR is the bytes so far, and the text before it in the rest
abbrev pub invariant-loop-byte : goal.invariant-loop-byte
invariant-loop-byte l =
    (l.cr ≡ l.byte-index) × (l.cr ≤ 30) × (l.cr + text_len (drop l.byte-index l.line) ≡ text_len l.line)
