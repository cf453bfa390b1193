use Rattle.std.proofs.Common.{◌≡◌, true, take, is_some}
use Rattle.xs_keys.specs.Terms.{list_all, get}
use Rattle.xs_keys.specs.ContentAfter.{group_in}
use Rattle.xs_keys.proofs.xreadgroup.all_there.Given as goal

-- each group so far exists
abbrev pub invariant-loop-one : goal.invariant-loop-one
invariant-loop-one l =
    list_all (λ one. is_some (group_in (get l.keys one.key) l.read.group)) (take l.one-index l.one-items) ≡ true
