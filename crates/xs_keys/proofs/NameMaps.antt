-- Names, and maps by names.
use Rattle.std.proofs.Common.{◌≡◌, ℕ, Bool, true, false, cond, List, Some, None, sym, ap, ◌∙◌, refl}
use Rattle.std.proofs.lemmas.Bool.{false≢true}
use Rattle.std.proofs.lemmas.Cmp.{tied_itself}
use Rattle.std.specs.FinMap.{IsAntisymmetric, slice_cmp-IsAntisymmetric, nat_cmp-IsAntisymmetric}
use Rattle.std.specs.Ordering.{nat_cmp, is_eq}
use Rattle.std.specs.declared.cmp.Ordering.{Ordering}
use Rattle.std.specs.declared.cmp.Ordering.TheVariants.{Less, Equal, Greater}
use Rattle.std.specs.Cmp.Lexicographic.{slice_cmp, nat_list_cmp_total}
use Rattle.xs_bytes.specs.SortedMap.{NameMap, get, insert, remove}
use Rattle.xs_bytes.proofs.SortedMaps.{get-insert_by}
use Rattle.xs_bytes.proofs.SortedMaps as sorted
use Rattle.xs_group.specs.GroupState.{is_same_name}

pub name_exact : IsAntisymmetric (slice_cmp nat_cmp)
name_exact = slice_cmp-IsAntisymmetric nat_cmp-IsAntisymmetric

equal_from : (r : Ordering) → is_eq r ≡ true → r ≡ Equal
equal_from Less e = absurd (false≢true e)
equal_from Equal e = refl
equal_from Greater e = absurd (false≢true e)

pub is_same_name-eq : (a b : List ℕ) → is_same_name a b ≡ true → a ≡ b
is_same_name-eq a b e = name_exact a b (equal_from _ e)

pub is_same_name-refl : (a : List ℕ) → is_same_name a a ≡ true
is_same_name-refl a = ap is_eq (tied_itself nat_list_cmp_total a)

module _ {X : Type 0} where
  pub get-insert : (m : NameMap X) (name : List ℕ) (x : X) (q : List ℕ) → get (insert m name x) q ≡ cond (is_same_name q name) (Some x) (get m q)
  get-insert m name x q = get-insert_by nat_list_cmp_total m name x q

  pub get-remove : (m : NameMap X) (name q : List ℕ) → get (remove m name) q ≡ cond (is_same_name q name) None (get m q)
  get-remove m name q = sorted.get-remove nat_list_cmp_total m name q

  -- maps that return the same values are equal
  pub same_map : (m n : NameMap X) → ((q : List ℕ) → get m q ≡ get n q) → m ≡ n
  same_map m n is = sorted.same_map nat_list_cmp_total name_exact m n is

  -- inserting again what is there changes nothing
  pub insert-same : (m : NameMap X) (name : List ℕ) (x : X) → get m name ≡ Some x → insert m name x ≡ m
  insert-same m name x e = same_map _ m (λ q. get-insert m name x q ∙ by q (is_same_name q name) refl) where
    by : (q : List ℕ) (t : Bool) → is_same_name q name ≡ t → cond t (Some x) (get m q) ≡ get m q
    by q true h = rw (is_same_name-eq q name h) (sym e)
    by q false h = refl
