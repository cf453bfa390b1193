-- A code of sorted maps, by which a proof distinguishes their values.
use Rattle.std.specs.Prelude.{◌≡◌, Bool, true, false, T, List}
use Rattle.std.specs.FinMap.Entries.{is_sorted}
use Rattle.std.specs.Coded.{Coded, code_by, coded×, coded_list}
use Rattle.std.specs.declared.cmp.Ordering.{Ordering}
use Rattle.std.proofs.Common.{refl, sym, subst}
use Rattle.std.proofs.Math.Dec.{T_prop}
use Rattle.xs_bytes.specs.SortedMap.{SortedMap, empty}

-- the entries as a map, if their keys rise
abbrev pub map_if_sorted :
    {K X : Type 0} {R : K → K → Ordering} (es : List (K × X)) (b : Bool) → is_sorted R es ≡ b → SortedMap R X
map_if_sorted es true e = record { entries = es; sorted = subst T (sym e) tt }
map_if_sorted es false e = empty

pub back :
    {K X : Type 0} {R : K → K → Ordering} (m : SortedMap R X) (b : Bool) (e : is_sorted R m.entries ≡ b)
    → map_if_sorted m.entries b e ≡ m
back {R = R} m true e =
    λ i. record { entries = m.entries; sorted = T_prop (is_sorted R m.entries) (subst T (sym e) tt) m.sorted i }
back m false e = absurd (subst T e m.sorted)

-- a code of maps, by which a proof distinguishes them
abbrev pub coded_map : {K X : Type 0} {R : K → K → Ordering} → Coded K → Coded X → Coded (SortedMap R X)
coded_map {K} {X} {R} k x =
    code_by (List (K × X)) (coded_list (coded× k x)) (λ m. m.entries) (λ es. map_if_sorted es (is_sorted R es) refl)
    (λ m. back m (is_sorted R m.entries) refl)
