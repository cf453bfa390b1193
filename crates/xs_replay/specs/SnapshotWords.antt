-- The words of a piece, and which numbers it may have. Numbers are in decimal.
use Rattle.std.specs.Prelude.{ℕ, ◌/◌, ◌%◌, ◌^◌, ◌<◌, List, [], ◌∷◌, ◌++◌, decimal, codes}
use Rattle.std.specs.List.{flat_map}
use Rattle.xs_stream.specs.declared.id.Id.{Id}
use Rattle.xs_stream.specs.declared.field.Field.{Field}
use Rattle.xs_stream.specs.ConsistentStream.{IsId}
use Rattle.xs_replay.specs.Pieces.{Piece, of_key, of_entry, of_group, of_consumer, of_row}

abbrev pub id_words : Id → List (List ℕ)
id_words id = decimal id.ms ∷ decimal id.seq ∷ []

-- a number below 2^128: its quotient by 2^64, and the remainder
abbrev pub wide_words : ℕ → List (List ℕ)
wide_words n = decimal (n / 2 ^ 64) ∷ decimal (n % 2 ^ 64) ∷ []

-- each name, and its value after it
abbrev pub field_words : List Field → List (List ℕ)
field_words fields = flat_map (λ field. field.name ∷ field.value ∷ []) fields

-- the kind of a piece
abbrev pub kind_of : Piece → List ℕ
kind_of (of_key name top added deleted) = codes "KEY"
kind_of (of_entry id fields) = codes "ENTRY"
kind_of (of_group name cursor) = codes "GROUP"
kind_of (of_consumer name moment) = codes "CONSUMER"
kind_of (of_row id row) = codes "ROW"

-- the values of a piece
abbrev pub values_of : Piece → List (List ℕ)
values_of (of_key name top added deleted) = name ∷ (id_words top ++ wide_words added ++ id_words deleted)
values_of (of_entry id fields) = id_words id ++ field_words fields
values_of (of_group name cursor) = name ∷ id_words cursor
values_of (of_consumer name moment) = name ∷ decimal moment ∷ []
values_of (of_row id row) = id_words id ++ row.consumer ∷ decimal row.time ∷ decimal row.count ∷ []

abbrev pub words_of_piece : Piece → List (List ℕ)
words_of_piece piece = kind_of piece ∷ values_of piece

-- the numbers of a piece are in range: those of ids below 2^64, a count of entries below 2^128, moments and a count of
-- deliveries below 2^63
abbrev pub Fits : Piece → Type 0
Fits (of_key name top added deleted) = IsId top × (added < 2 ^ 128) × IsId deleted
Fits (of_entry id fields) = IsId id
Fits (of_group name cursor) = IsId cursor
Fits (of_consumer name moment) = moment < 2 ^ 63
Fits (of_row id row) = IsId id × (row.time < 2 ^ 63) × (row.count < 2 ^ 63)
