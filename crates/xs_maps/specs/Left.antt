-- The entries that an iterator has left, from a vector or a tree.
use Rattle.std.specs.Prelude.{List}
use Rattle.xs_maps.specs.declared.entries.Left.{Left}
use Rattle.xs_maps.specs.declared.entries.Left.TheVariants.{Few, Many}

module _ {K X : Type 0} where
  abbrev pub items_left : Left K X → List (K × X)
  items_left (Few few) = few.now
  items_left (Many many) = many
