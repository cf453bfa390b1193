-- The ids or streams that a command names.
use Rattle.std.specs.Prelude.{List}
use Rattle.xs_command.specs.declared.operands.Kept.{Kept}
use Rattle.xs_command.specs.declared.operands.Kept.TheVariants.{One, Many}

module _ {X : Type 0} where
  -- all of them, in the value or in memory of their own
  abbrev pub all_kept : Kept X → List X
  all_kept (One item) = item
  all_kept (Many items) = items.items
