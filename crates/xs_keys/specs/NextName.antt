-- A name above all others, for a map that is built name by name.
use Rattle.std.specs.Prelude.{ℕ, Bool, List}
use Rattle.std.specs.List.{list_all}
use Rattle.std.specs.Ordering.{nat_cmp, is_lt}
use Rattle.std.specs.Cmp.Lexicographic.{slice_cmp}
use Rattle.xs_bytes.specs.SortedMap.{NameMap}

-- one name is before another in the order of their bytes
abbrev pub is_name_before : List ℕ → List ℕ → Bool
is_name_before a b = is_lt (slice_cmp nat_cmp a b)

-- the name is above those of all entries
abbrev pub is_past_names : {X : Type 0} → List ℕ → NameMap X → Bool
is_past_names name m = list_all (λ e. is_name_before e.0 name) m.entries
