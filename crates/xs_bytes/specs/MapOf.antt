-- A sorted map of a list of entries.
use Rattle.std.specs.Prelude.{ℕ, List, [], ◌∷◌}
use Rattle.std.specs.Cmp.{IsTotalOrder}
use Rattle.std.specs.Cmp.Lexicographic.{nat_list_cmp_total}
use Rattle.std.specs.declared.cmp.Ordering.{Ordering}
use Rattle.xs_bytes.specs.SortedMap.{SortedMap, NameMap, empty, insert_by}

module _ {K X : Type 0} {R : K → K → Ordering} where
  -- of entries in any order; if two have one key, the first counts
  abbrev pub of_entries : IsTotalOrder R → List (K × X) → SortedMap R X
  of_entries o [] = empty
  of_entries o (e ∷ es) = insert_by o (of_entries o es) e.0 e.1

abbrev pub from_entries : {X : Type 0} → List (List ℕ × X) → NameMap X
from_entries entries = of_entries nat_list_cmp_total entries
