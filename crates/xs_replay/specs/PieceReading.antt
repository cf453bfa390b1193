-- The piece that words spell. Numbers are read without leading zeros, as they are printed.
use Rattle.std.specs.Prelude.{ℕ, ◌+◌, ◌*◌, ◌^◌, nat_lt, List, [], ◌∷◌, codes, bytes_eq, Option, Some, None}
use Rattle.std.specs.Prelude.{option_and_then, if◌then◌else◌}
use Rattle.std.specs.Option.{option_map}
use Rattle.xs_bytes.specs.Number.{natural_of}
use Rattle.xs_stream.specs.declared.id.Id.{Id}
use Rattle.xs_stream.specs.declared.field.Field.{Field}
use Rattle.xs_stream.specs.IdText.{id_of_parts}
use Rattle.xs_keys.specs.Event.{Bytes}
use Rattle.xs_replay.specs.Pieces.{Piece, of_key, of_entry, of_group, of_consumer, of_row}

abbrev pub id_of_words : List ℕ → List ℕ → Option Id
id_of_words ms seq = id_of_parts (natural_of ms) (natural_of seq)

abbrev pub wide_of_parts : Option ℕ → Option ℕ → Option ℕ
wide_of_parts (Some high) (Some low) = Some (high * 2 ^ 64 + low)
wide_of_parts _ _ = None

abbrev pub wide_of_words : List ℕ → List ℕ → Option ℕ
wide_of_words high low = wide_of_parts (natural_of high) (natural_of low)

-- a moment or a count of deliveries
abbrev pub small_of_word : List ℕ → Option ℕ
small_of_word word = option_and_then (λ n. if nat_lt n (2 ^ 63) then Some n else None) (natural_of word)

-- names and values in order
abbrev pub fields_of_words : List (List ℕ) → Option (List Field)
fields_of_words [] = Some []
fields_of_words (name ∷ []) = None
fields_of_words (name ∷ value ∷ words) =
    option_map (λ fields. record { name = name; value = value } ∷ fields) (fields_of_words words)

abbrev pub key_of_parts : Bytes → Option Id → Option ℕ → Option Id → Option Piece
key_of_parts name (Some top) (Some added) (Some deleted) = Some (of_key name top added deleted)
key_of_parts name _ _ _ = None

abbrev pub key_of_words : List (List ℕ) → Option Piece
key_of_words (name ∷ ms ∷ seq ∷ high ∷ low ∷ deleted_ms ∷ deleted_seq ∷ []) =
    key_of_parts name (id_of_words ms seq) (wide_of_words high low) (id_of_words deleted_ms deleted_seq)
key_of_words _ = None

abbrev pub entry_of_parts : Option Id → Option (List Field) → Option Piece
entry_of_parts (Some id) (Some fields) = Some (of_entry id fields)
entry_of_parts _ _ = None

abbrev pub entry_of_words : List (List ℕ) → Option Piece
entry_of_words (ms ∷ seq ∷ words) = entry_of_parts (id_of_words ms seq) (fields_of_words words)
entry_of_words _ = None

abbrev pub group_of_words : List (List ℕ) → Option Piece
group_of_words (name ∷ ms ∷ seq ∷ []) = option_map (of_group name) (id_of_words ms seq)
group_of_words _ = None

abbrev pub consumer_of_words : List (List ℕ) → Option Piece
consumer_of_words (name ∷ moment ∷ []) = option_map (of_consumer name) (small_of_word moment)
consumer_of_words _ = None

abbrev pub row_of_parts : Option Id → Bytes → Option ℕ → Option ℕ → Option Piece
row_of_parts (Some id) consumer (Some time) (Some count) =
    Some (of_row id (record { consumer = consumer; time = time; count = count }))
row_of_parts _ consumer _ _ = None

abbrev pub row_of_words : List (List ℕ) → Option Piece
row_of_words (ms ∷ seq ∷ consumer ∷ time ∷ count ∷ []) =
    row_of_parts (id_of_words ms seq) consumer (small_of_word time) (small_of_word count)
row_of_words _ = None

-- the piece that words spell, if they spell one
abbrev pub piece_of_words : List (List ℕ) → Option Piece
piece_of_words [] = None
piece_of_words (kind ∷ values) =
    if bytes_eq kind (codes "KEY") then key_of_words values
    else (if bytes_eq kind (codes "ENTRY") then entry_of_words values
    else (if bytes_eq kind (codes "GROUP") then group_of_words values
    else (if bytes_eq kind (codes "CONSUMER") then consumer_of_words values
    else (if bytes_eq kind (codes "ROW") then row_of_words values else None))))
