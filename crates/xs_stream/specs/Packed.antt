-- Entries one after another in bytes. The milliseconds of an id are stored as their distance above a base, and the
-- fields after their length, so they can be skipped. Names that a block has once aren't repeated.
use Rattle.std.specs.Prelude.{◌≡◌, ℕ, zero, suc, ◌+◌, ◌-◌, ◌%◌, ◌^◌, ◌<◌, ◌==◌, ◌&&◌, ◌||◌, Bool, true, false, not}
use Rattle.std.specs.Prelude.{List, [], ◌∷◌, ◌++◌, ◌≤◌, length, take, drop, nat_lt, if◌then◌else◌}
use Rattle.std.specs.List.{flat_map}
use Rattle.std.specs.Str.{bytes_eq}
use Rattle.xs_stream.specs.declared.id.Id.{Id}
use Rattle.xs_stream.specs.declared.field.Field.{Field}
use Rattle.xs_stream.specs.PackedNumber.{number_code, first_number, after_number, head_number}
use Rattle.xs_stream.specs.PackedText.{text_code, first_text, after_text}

-- ---- names

-- the number of fields, and the name of each
unfoldable pub names_code : List Field → List ℕ
names_code fields = number_code (length fields) ++ flat_map (λ f. text_code f.name) fields

abbrev pub all_named : List ℕ → List Field → Bool
all_named names [] = true
all_named names (f ∷ fs) = bytes_eq (first_text names) f.name && all_named (after_text names) fs

-- the fields have these names, which aren't missing
unfoldable pub has_names : List ℕ → List Field → Bool
has_names names fields =
    not (length names == 0) && ((first_number names == length fields) && all_named (after_number names) fields)

-- ---- fields

-- a field, or only its value
abbrev pub field_code : Bool → Field → List ℕ
field_code true field = text_code field.value
field_code false field = text_code field.name ++ text_code field.value

-- 0 if the names are stored elsewhere, else one more than the number of fields
abbrev pub mark_of : Bool → List Field → ℕ
mark_of true fields = 0
mark_of false fields = length fields + 1

unfoldable pub body_code : Bool → List Field → List ℕ
body_code shared fields = number_code (mark_of shared fields) ++ flat_map (field_code shared) fields

-- this many fields, with their names beside them or elsewhere
abbrev pub fields_in : Bool → ℕ → List ℕ → List ℕ → List Field
fields_in shared zero names bytes = []
fields_in true (suc count) names bytes =
    record { name = first_text names; value = first_text bytes }
    ∷ fields_in true count (after_text names) (after_text bytes)
fields_in false (suc count) names bytes =
    record { name = first_text bytes; value = first_text (after_text bytes) }
    ∷ fields_in false count names (after_text (after_text bytes))

unfoldable pub body_fields : List ℕ → List ℕ → List Field
body_fields names body =
    if first_number body == 0 then fields_in true (first_number names) (after_number names) (after_number body)
    else fields_in false (first_number body - 1) names (after_number body)

-- ---- entries

-- milliseconds from a base up
unfoldable pub ms_code : ℕ → ℕ → List ℕ
ms_code base ms = if nat_lt ms (2 ^ 64) then number_code ((ms + (2 ^ 64 - base)) % 2 ^ 64) else 257 ∷ ms ∷ []

unfoldable pub first_ms : ℕ → List ℕ → ℕ
first_ms base bytes =
    if head_number bytes == 257 then head_number (drop 1 bytes) else (base + first_number bytes) % 2 ^ 64

unfoldable pub entry_code : ℕ → Bool → Id × List Field → List ℕ
entry_code base shared entry =
    ms_code base entry.0.ms ++ (number_code entry.0.seq ++ text_code (body_code shared entry.1))

unfoldable pub entry_id : ℕ → List ℕ → Id
entry_id base bytes = record { ms = first_ms base bytes; seq = first_number (after_number bytes) }

unfoldable pub entry_body : List ℕ → List ℕ
entry_body bytes = first_text (after_number (after_number bytes))

unfoldable pub after_entry : List ℕ → List ℕ
after_entry bytes = after_text (after_number (after_number bytes))

abbrev pub entry_in : ℕ → List ℕ → List ℕ → Id × List Field
entry_in base names bytes = (entry_id base bytes, body_fields names (entry_body bytes))

-- this many entries
abbrev pub packed_entries : ℕ → List ℕ → ℕ → List ℕ → List (Id × List Field)
packed_entries base names zero bytes = []
packed_entries base names (suc count) bytes =
    entry_in base names bytes ∷ packed_entries base names count (after_entry bytes)

abbrev pub entries_code : ℕ → List ℕ → List (Id × List Field) → List ℕ
entries_code base names entries = flat_map (λ e. entry_code base (has_names names e.1) e) entries

-- an entry, unchanged, over another base
abbrev pub rebased_code : ℕ → ℕ → List ℕ → List ℕ
rebased_code base from bytes =
    ms_code base (entry_id from bytes).ms ++ (number_code (entry_id from bytes).seq ++ text_code (entry_body bytes))

-- this many of them
abbrev pub rebased_codes : ℕ → ℕ → ℕ → List ℕ → List ℕ
rebased_codes base from zero bytes = []
rebased_codes base from (suc count) bytes =
    rebased_code base from bytes ++ rebased_codes base from count (after_entry bytes)

-- one of this many entries has the names that are stored elsewhere
abbrev pub shares_names : ℕ → List ℕ → Bool
shares_names zero bytes = false
shares_names (suc count) bytes = (first_number (entry_body bytes) == 0) || shares_names count (after_entry bytes)

-- the bytes after this many entries
abbrev pub after_entries : ℕ → List ℕ → List ℕ
after_entries zero bytes = bytes
after_entries (suc count) bytes = after_entries count (after_entry bytes)

-- ---- a block

-- this many entries from a place on, after the names that they share
abbrev pub block_entries : ℕ → ℕ → ℕ → List ℕ → List (Id × List Field)
block_entries base count start bytes = packed_entries base (first_text bytes) count (drop start bytes)

-- the bytes begin with a text
abbrev pub BeginsWithText : List ℕ → List ℕ → Type 0
BeginsWithText text bytes = (behind : List ℕ) × (bytes ≡ text_code text ++ behind)

-- the names come first, and from a place on the entries that are read there, and nothing else
pub record IsPacked (base count start : ℕ) (bytes : List ℕ) : Type 0 where
  pub base_fits : base < 2 ^ 64
  pub inside : start ≤ length bytes
  pub named : 0 < count → BeginsWithText (first_text bytes) (take start bytes)
  pub coded : drop start bytes ≡ entries_code base (first_text bytes) (block_entries base count start bytes)
