use Rattle.std.proofs.Common.{sym, subst}
use Rattle.std.specs.List.Sorted.{IsStrictlySortedBy}
use Rattle.std.specs.Map.{keys_of}
use Rattle.xs_maps.proofs.Sorted.{sorted-none}
use Rattle.xs_maps.proofs.small_map.SmallMap.new.Goals as goal

pub invariant_of-result : goal.invariant_of-result
invariant_of-result g c = subst (λ es. IsStrictlySortedBy g.K.Ord.cmp (keys_of es)) (sym c.new.ensures.items) (sorted-none g.K.Ord.cmp)
