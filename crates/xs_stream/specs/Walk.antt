-- A walk over the entries of a stream: what is left of a block, the filed blocks after it, and the newest entries.
use Rattle.std.specs.Prelude.{◌<◌, List, [], ◌∷◌, ◌++◌, length}
use Rattle.xs_stream.specs.declared.id.Id.{Id}
use Rattle.xs_stream.specs.declared.field.Field.{Field}
use Rattle.xs_stream.specs.Blocks.{contents, entries_of_blocks}
use Rattle.xs_stream.specs.BlockState.{BlockState}

-- the entries that are ahead
abbrev pub entries_ahead
    : List (Id × List Field) → List (Id × BlockState) → List (Id × List Field) → List (Id × List Field)
entries_ahead block older newest = block ++ (entries_of_blocks (contents older) ++ newest)

-- none of these blocks is empty
abbrev pub AreFilled : List (Id × BlockState) → Type 0
AreFilled [] = Unit {0}
AreFilled (b ∷ bs) = (0 < length b.1.entries) × AreFilled bs
