-- The content of a stream, and the result of ranges, deletions and trims. (Redis, XRANGE, XDEL and XTRIM.)
use Rattle.std.specs.Prelude.{◌≡◌, ℕ, ◌+◌, ◌++◌, Bool, true, false, ◌&&◌, not, List, [], ◌∷◌, map, filter, length, reverse, take}
use Rattle.std.specs.Prelude.{nat_le, Option, Some, None, if◌then◌else◌}
use Rattle.std.specs.Map.{lookup}
use Rattle.xs_stream.specs.declared.id.Id.{Id}
use Rattle.xs_stream.specs.declared.field.Field.{Field}
use Rattle.xs_stream.specs.declared.range.Range.{Range}
use Rattle.xs_stream.specs.declared.trim.Trim.{Trim}
use Rattle.xs_stream.specs.declared.trim.Trim.TheVariants.{MaxLen, MinId}
use Rattle.xs_stream.specs.Id.{is_below, is_same_id, has_id, zero_id}

-- the greatest id ever added, the entries in the order of their ids, the number of entries ever added, and the greatest
-- id ever deleted, or 0-0
pub record StreamState : Type 0 where
  pub top : Id
  pub entries : List (Id × List Field)
  pub added : ℕ
  pub deleted : Id

-- a stream, and the bytes of room in the memory that it has
pub record StreamInMemory : Type 0 where
  pub top : Id
  pub entries : List (Id × List Field)
  pub added : ℕ
  pub deleted : Id
  pub room : ℕ

-- its content, whatever memory it has for that
abbrev pub state_of : StreamInMemory → StreamState
state_of s = record { top = s.top; entries = s.entries; added = s.added; deleted = s.deleted }

-- a stream that nothing was added to
abbrev pub new_stream : StreamState
new_stream = record { top = zero_id; entries = []; added = 0; deleted = zero_id }

abbrev pub ids_of : List (Id × List Field) → List Id
ids_of entries = map (λ e. e.0) entries

-- x is below each of these
abbrev pub AllAbove : Id → List Id → Type 0
AllAbove x [] = Unit {0}
AllAbove x (y ∷ ys) = (is_below x y ≡ true) × AllAbove x ys

-- each id is below all those after it
abbrev pub Ascends : List Id → Type 0
Ascends [] = Unit {0}
Ascends (x ∷ xs) = AllAbove x xs × Ascends xs

-- none of these is above the top
abbrev pub AllUpTo : Id → List Id → Type 0
AllUpTo top [] = Unit {0}
AllUpTo top (x ∷ xs) = (is_below top x ≡ false) × AllUpTo top xs

-- the fields of an entry
abbrev pub fields_at : List (Id × List Field) → Id → Option (List Field)
fields_at entries id = lookup (is_same_id id) entries

-- with an entry after the others
abbrev pub with_entry : Id → List Field → StreamState → StreamState
with_entry id fields s =
    record s { top = id; entries = s.entries ++ (id, fields) ∷ []; added = s.added + 1 }

-- the greatest of an id and of these
abbrev pub greatest : Id → List Id → Id
greatest a [] = a
greatest a (x ∷ xs) = greatest (if is_below a x then x else a) xs

-- the entries without those that are named
abbrev pub without : List Id → List (Id × List Field) → List (Id × List Field)
without ids entries = filter (λ e. not (has_id ids e.0)) entries

-- without the entries that are named, of which the greatest may be the greatest ever deleted
abbrev pub with_deleted : List Id → StreamState → StreamState
with_deleted ids s =
    record s { entries = without ids s.entries; deleted = greatest s.deleted (filter (has_id ids) (ids_of s.entries)) }

-- the number of these ids that are above x
abbrev pub count_above : Id → List Id → ℕ
count_above x ids = length (filter (λ y. is_below x y) ids)

-- MAXLEN n drops an id with n greater ones or more; MINID drops those below its id
abbrev pub is_trimmed : Trim → List Id → Id → Bool
is_trimmed (MaxLen n) ids x = nat_le n (count_above x ids)
is_trimmed (MinId low) ids x = is_below x low

-- the entries that a trim keeps
abbrev pub entries_after_trim : Trim → List (Id × List Field) → List (Id × List Field)
entries_after_trim trim entries = filter (λ e. not (is_trimmed trim (ids_of entries) e.0)) entries

-- both ends belong to a range
abbrev pub is_within : Range → Id → Bool
is_within range id = not (is_below id range.low) && not (is_below range.high id)

abbrev pub up_to_limit : Option ℕ → List Id → List Id
up_to_limit None ids = ids
up_to_limit (Some n) ids = take n ids

-- the ids within a range, in their order or from the greatest down
abbrev pub ids_within : Range → Bool → List (Id × List Field) → List Id
ids_within range reversed entries =
    let ids = filter (is_within range) (ids_of entries) in
    if reversed then reverse ids else ids

-- the entries within a range, in their order or from the greatest id down
abbrev pub all_within : Range → Bool → List (Id × List Field) → List (Id × List Field)
all_within range reversed entries =
    let within = filter (λ e. is_within range e.0) entries in
    if reversed then reverse within else within

-- at most this many of them
abbrev pub entries_within : Range → Bool → Option ℕ → List (Id × List Field) → List (Id × List Field)
entries_within range reversed None entries = all_within range reversed entries
entries_within range reversed (Some n) entries = take n (all_within range reversed entries)

-- an entry is among these, under its id
abbrev pub IsEntryOf : List (Id × List Field) → Id × List Field → Type 0
IsEntryOf entries entry = fields_at entries entry.0 ≡ Some entry.1

abbrev pub AreEntriesOf : List (Id × List Field) → List (Id × List Field) → Type 0
AreEntriesOf entries [] = Unit {0}
AreEntriesOf entries (e ∷ es) = IsEntryOf entries e × AreEntriesOf entries es
