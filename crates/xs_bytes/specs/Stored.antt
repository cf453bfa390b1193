use Rattle.std.specs.Prelude.{List, ℕ}
use Rattle.xs_bytes.specs.declared.bytes.Stored.{Stored}
use Rattle.xs_bytes.specs.declared.bytes.Stored.TheVariants.{Short, Long}

-- The bytes that are stored, in the value or in memory of their own.
abbrev pub stored_bytes : Stored → List ℕ
stored_bytes (Short items) = items
stored_bytes (Long items) = items.items
