use Rattle.std.proofs.Common.{◌≡◌, ◌++◌, length}
use Rattle.xs_resp.proofs.request.Request.copy.Given as goal

-- the words are the copies, and those that are left
abbrev pub invariant-loop-word : goal.invariant-loop-word
invariant-loop-word l = l.self ≡ l.copies.items ++ l.left

abbrev pub decreases-loop-word : goal.decreases-loop-word
decreases-loop-word l = length l.left
