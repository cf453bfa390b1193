-- What is always true of a stream: it is consistent, and its ids are valid.
use Rattle.std.specs.Prelude.{ℕ, ◌+◌, ◌*◌, ◌<◌, ◌^◌, Bool, not, ◌&&◌, nat_le, List, [], ◌∷◌}
use Rattle.xs_stream.specs.declared.id.Id.{Id}
use Rattle.xs_stream.specs.declared.field.Field.{Field}
use Rattle.xs_stream.specs.Id.{is_below, zero_id}
use Rattle.xs_stream.specs.StreamContent.{StreamState, ids_of, AllAbove, Ascends, AllUpTo}

-- both numbers are below 2^64
abbrev pub IsId : Id → Type 0
IsId id = (id.ms < 2 ^ 64) × (id.seq < 2 ^ 64)

abbrev pub AllIds : List Id → Type 0
AllIds [] = Unit {0}
AllIds (x ∷ xs) = IsId x × AllIds xs

-- the ids of the entries ascend, and none is above the top
pub record AreInOrder (top : Id) (entries : List (Id × List Field)) : Type 0 where
  pub ascends : Ascends (ids_of entries)
  pub up_to_top : AllUpTo top (ids_of entries)

abbrev pub IsConsistentStream : StreamState → Type 0
IsConsistentStream stream = AreInOrder stream.top stream.entries

-- and the top and all of them fit into ids, and no entry is at 0-0
pub record AreValid (top : Id) (entries : List (Id × List Field)) : Type 0 where
  pub consistent : AreInOrder top entries
  pub top_is_id : IsId top
  pub are_ids : AllIds (ids_of entries)
  pub above_zero : AllAbove zero_id (ids_of entries)

-- the number of ids below an id
abbrev pub rank_of : Id → ℕ
rank_of id = id.ms * 2 ^ 64 + id.seq

-- a stream may have this top and this many additions after entries up to an earlier top: the top isn't below that one,
-- and each addition had an id of its own, above 0-0
abbrev pub is_history_after : Id → Id → ℕ → Bool
is_history_after earlier top added = not (is_below top earlier) && nat_le added (rank_of top)
