-- A block: its entries, and the memory that it has for them.
use Rattle.std.specs.Prelude.{ℕ, List}
use Rattle.xs_stream.specs.declared.id.Id.{Id}
use Rattle.xs_stream.specs.declared.field.Field.{Field}

-- the entries, and the bytes of room, whether entries take them or not
pub record BlockState : Type 0 where
  pub entries : List (Id × List Field)
  pub room : ℕ
