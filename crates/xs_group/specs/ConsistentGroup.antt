-- What is always true of a group: it is consistent.
use Rattle.std.specs.Prelude.{◌≡◌, true, false, map}
use Rattle.xs_bytes.specs.SortedMap.{has_key}
use Rattle.xs_stream.specs.declared.id.Id.{Id}
use Rattle.xs_stream.specs.Id.{is_below}
use Rattle.xs_stream.specs.StreamContent.{Ascends}
use Rattle.xs_group.specs.GroupState.{Rows, GroupState}
use Rattle.xs_group.specs.Indexes.{IsNamed}

-- no row is above the cursor
abbrev pub IsUpTo : Id → Rows → Type 0
IsUpTo cursor rows = (x : Id) → has_key rows x ≡ true → is_below cursor x ≡ false

-- the ids of the rows ascend, so each has one row; none is above the cursor; and the consumer of each row is one of the
-- group's
pub record IsConsistentGroup (group : GroupState) : Type 0 where
  pub ascends : Ascends (map (λ e. e.0) group.rows.entries)
  pub up_to_cursor : IsUpTo group.cursor group.rows
  pub of_consumers : IsNamed group.consumers group.rows
