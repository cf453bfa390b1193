-- A pending row after all others, for a group that is built row by row.
use Rattle.std.specs.Prelude.{Bool, not, ◌&&◌, List, ℕ}
use Rattle.std.specs.List.{list_all}
use Rattle.xs_bytes.specs.SortedMap.{insert_by}
use Rattle.xs_stream.specs.declared.id.Id.{Id}
use Rattle.xs_stream.specs.Id.{is_below}
use Rattle.xs_group.specs.GroupState.{RowState, Rows, GroupState, ids_total, has_name}

-- the id is above those of all rows
abbrev pub is_past_rows : Id → Rows → Bool
is_past_rows id rows = list_all (λ e. is_below e.0 id) rows.entries

-- the consumer may get the next row, at this id: the consumer is in the group, and the id is above all rows, and not
-- above the cursor
abbrev pub is_next_row : List ℕ → Id → GroupState → Bool
is_next_row consumer id group =
    has_name group.consumers consumer && (not (is_below group.cursor id) && is_past_rows id group.rows)

-- with a row at an id
abbrev pub with_row : Id → RowState → GroupState → GroupState
with_row id row group = record group { rows = insert_by ids_total group.rows id row }
