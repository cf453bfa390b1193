use Rattle.std.proofs.Common.{◌≡◌, true, take}
use Rattle.xs_keys.specs.Terms.{list_all, get}
use Rattle.xs_keys.specs.Waiting.{finds_none_in}
use Rattle.xs_keys.proofs.xreadgroup.finds_nothing.Given as goal

-- each key so far has nothing new
abbrev pub invariant-loop-one : goal.invariant-loop-one
invariant-loop-one l =
    list_all (λ one. finds_none_in l.read one (get l.keys one.key)) (take l.one-index l.one-items) ≡ true
