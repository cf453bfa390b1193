use Rattle.std.proofs.Common.{◌≡◌, ◌∷◌, ◌-◌, ◌≤◌, length}
use Rattle.xs_command.specs.Syntax.{leading_ids}
use Rattle.xs_command.proofs.IdSteps.{with_front}
use Rattle.xs_command.proofs.words.Words.ids_behind.Given as goal

-- the ids so far, and those at the front of the words left
abbrev pub invariant-loop-id : goal.invariant-loop-id
invariant-loop-id l =
    (with_front l.items.items (leading_ids l.left) ≡ (l.fn.first ∷ (leading_ids l.fn.self).0, (leading_ids l.fn.self).1)) × (length l.left ≤ l._id-end - l._id)
