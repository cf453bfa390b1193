use Rattle.std.proofs.Common.{◌≡◌, take, bytes_eq}
use Rattle.xs_connection.proofs.password.is_same.Given as goal

-- the bytes so far
abbrev pub invariant-loop-place : goal.invariant-loop-place
invariant-loop-place l = l.same ≡ bytes_eq (take l.place l.wanted) (take l.place l.given)
