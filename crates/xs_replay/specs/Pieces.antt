-- The pieces of a content in a snapshot, and the content of pieces.
use Rattle.std.specs.Prelude.{ℕ, List, [], ◌∷◌, ◌++◌, map}
use Rattle.std.specs.List.{flat_map}
use Rattle.xs_bytes.specs.MapOf.{from_entries, of_entries}
use Rattle.xs_stream.specs.declared.id.Id.{Id}
use Rattle.xs_stream.specs.declared.field.Field.{Field}
use Rattle.xs_group.specs.GroupState.{RowState, GroupState, ids_total}
use Rattle.xs_keys.specs.Event.{Bytes, Entries, PendingEntries}
use Rattle.xs_keys.specs.Content.{KeyState, Content}

-- a piece of a content
pub data Piece : Type 0 where
  -- a key: its name and its top id, the number of entries ever added, and the greatest id ever deleted
  of_key : Bytes → Id → ℕ → Id → Piece
  -- an entry of the last key
  of_entry : Id → List Field → Piece
  -- a group of the last key: its name and its cursor
  of_group : Bytes → Id → Piece
  -- a consumer of the last group: its name and its moment
  of_consumer : Bytes → ℕ → Piece
  -- a pending row of the last group
  of_row : Id → RowState → Piece

-- a group, its consumers and its rows
abbrev pub pieces_of_group : Bytes × GroupState → List Piece
pieces_of_group e =
    of_group e.0 e.1.cursor
    ∷ (map (λ c. of_consumer c.0 c.1) e.1.consumers.entries ++ map (λ r. of_row r.0 r.1) e.1.rows.entries)

-- a key, its entries and its groups
abbrev pub pieces_of_key : Bytes × KeyState → List Piece
pieces_of_key e =
    of_key e.0 e.1.stream.top e.1.stream.added e.1.stream.deleted
    ∷ (map (λ x. of_entry x.0 x.1) e.1.stream.entries ++ flat_map pieces_of_group e.1.groups.entries)

-- the pieces of a content, in the order of its keys
abbrev pub pieces_of : Content → List Piece
pieces_of content = flat_map pieces_of_key content.entries

-- what pieces give, read from the last one back: the consumers and the rows for a group before them, the groups and the
-- entries for a key before them, and the keys that are complete
pub record Gathered : Type 0 where
  pub consumers : List (Bytes × ℕ)
  pub rows : PendingEntries
  pub groups : List (Bytes × GroupState)
  pub entries : Entries
  pub keys : List (Bytes × KeyState)

abbrev pub nothing_gathered : Gathered
nothing_gathered = record { consumers = []; rows = []; groups = []; entries = []; keys = [] }

-- a group with the consumers and the rows after it
abbrev pub group_of : Id → Gathered → GroupState
group_of cursor g =
    record { cursor = cursor; consumers = from_entries g.consumers; rows = of_entries ids_total g.rows }

-- a key with the entries and the groups after it
abbrev pub key_of : Id → ℕ → Id → Gathered → KeyState
key_of top added deleted g =
    record {
      stream = record { top = top; entries = g.entries; added = added; deleted = deleted };
      groups = from_entries g.groups;
    }

-- with a piece in front
abbrev pub with_piece : Piece → Gathered → Gathered
with_piece (of_key name top added deleted) g =
    record nothing_gathered { keys = (name, key_of top added deleted g) ∷ g.keys }
with_piece (of_entry id fields) g = record g { entries = (id, fields) ∷ g.entries }
with_piece (of_group name cursor) g =
    record g { consumers = []; rows = []; groups = (name, group_of cursor g) ∷ g.groups }
with_piece (of_consumer name moment) g = record g { consumers = (name, moment) ∷ g.consumers }
with_piece (of_row id row) g = record g { rows = (id, row) ∷ g.rows }

abbrev pub gathered : List Piece → Gathered
gathered [] = nothing_gathered
gathered (piece ∷ pieces) = with_piece piece (gathered pieces)

-- the content of pieces
abbrev pub content_of : List Piece → Content
content_of pieces = from_entries (gathered pieces).keys
