-- A count of the entries of adjacent blocks.
use Rattle.std.specs.Prelude.{ℕ, ◌+◌, List, length}
use Rattle.xs_stream.specs.declared.id.Id.{Id}
use Rattle.xs_stream.specs.BlockState.{BlockState}
use Rattle.xs_stream.specs.Blocks.{contents, entries_of_blocks}

-- the number of entries counted, and the blocks whose entries weren't
pub record CountState : Type 0 where
  pub count : ℕ
  pub left : List (Id × BlockState)

-- the number of all entries
abbrev pub total_of : CountState → ℕ
total_of s = s.count + length (entries_of_blocks (contents s.left))
