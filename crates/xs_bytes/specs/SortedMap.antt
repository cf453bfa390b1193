-- A finite map as a value: its entries in the order of their keys. Definitions on such a map compute.
use Rattle.std.specs.Prelude.{ℕ, Bool, not, T, List, [], map, Option, is_some}
use Rattle.std.specs.FinMap.Entries.{find, put, where_key, is_sorted, is_sorted-put, is_sorted-where_key}
use Rattle.std.specs.Ordering.{nat_cmp, eq_by_cmp}
use Rattle.std.specs.Cmp.{IsTotalOrder}
use Rattle.std.specs.Cmp.Lexicographic.{slice_cmp, nat_list_cmp_total}
use Rattle.std.specs.declared.cmp.Ordering.{Ordering}
use Rattle.xs_bytes.specs.Each.{each, is_sorted-each}

-- the entries, whose keys strictly rise
pub record SortedMap {K : Type 0} (R : K → K → Ordering) (X : Type 0) : Type 0 where
  pub entries : List (K × X)
  pub sorted : T (is_sorted R entries)

module _ {K X : Type 0} {R : K → K → Ordering} where
  unfoldable pub empty : SortedMap R X
  empty = record { entries = []; sorted = tt }

  -- the value at a key
  unfoldable pub get : SortedMap R X → K → Option X
  get m k = find R k m.entries

  abbrev pub has_key : SortedMap R X → K → Bool
  has_key m k = is_some (get m k)

  abbrev pub keys : SortedMap R X → List K
  keys m = map (λ e. e.0) m.entries

  -- with this value at a key
  unfoldable pub insert_by : IsTotalOrder R → SortedMap R X → K → X → SortedMap R X
  insert_by o m k x = record { entries = put R k x m.entries; sorted = is_sorted-put R o k x m.entries m.sorted }

  -- without a key
  unfoldable pub remove : SortedMap R X → K → SortedMap R X
  remove m k =
      let other : K → Bool = λ x. not (eq_by_cmp R k x) in
      record { entries = where_key R other m.entries; sorted = is_sorted-where_key R other m.entries m.sorted }

  -- with each value changed by `f`; an entry for which `f` has no value is removed
  unfoldable pub change : (K → X → Option X) → SortedMap R X → SortedMap R X
  change f m = record { entries = each f m.entries; sorted = is_sorted-each R f m.entries m.sorted }

-- a map from names, in the order of their bytes
abbrev pub NameMap : Type 0 → Type 0
NameMap X = SortedMap {K = List ℕ} (slice_cmp nat_cmp) X

abbrev pub insert : {X : Type 0} → NameMap X → List ℕ → X → NameMap X
insert m name x = insert_by nat_list_cmp_total m name x
