use Rattle.std.proofs.Common.{◌≡◌, ℕ, ◌+◌, ◌++◌, List, length, true, Option, Some, None}
use Rattle.std.specs.Option.{option_copied}
use Rattle.std.specs.List.{list_all}
use Rattle.xs_script.specs.Line.{parts_of, parts_behind, has_bytes}
use Rattle.xs_script.proofs.lines.parts.words_of.Given as goal

-- how much is left
abbrev left_size : Option (List ℕ) → ℕ
left_size None = 0
left_size (Some text) = length text + 1

-- the words so far and the parts that are left are all, and the words have bytes
abbrev pub invariant-loop-left : goal.invariant-loop-left
invariant-loop-left l =
    (parts_of l.text ≡ l.words.items ++ parts_behind (option_copied l.left))
    × (list_all has_bytes l.words.items ≡ true)

abbrev pub decreases-loop-left : goal.decreases-loop-left
decreases-loop-left l = left_size (option_copied l.left)
