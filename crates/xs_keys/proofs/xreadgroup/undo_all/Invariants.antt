use Rattle.std.proofs.Common.{vec_len}
use Rattle.xs_keys.specs.Content.{Content}
use Rattle.xs_keys.specs.Reading.{AreMade}
use Rattle.xs_keys.proofs.xreadgroup.undo_all.Given as goal

-- undoing what is left gives the content before all
abbrev pub invariant-loop-delivery : goal.invariant-loop-delivery
invariant-loop-delivery l =
    (first : Content) → AreMade l.group l.reads l.fn.deliveries.items first l.fn.keys
    → AreMade l.group l.reads l.left.items first l.keys

abbrev pub decreases-loop-delivery : goal.decreases-loop-delivery
decreases-loop-delivery l = vec_len l.left
