-- The values of digits and the contents of maps, by examples. Numbers are decimal, and below 2^64. Maps of names are in
-- the order of bytes: `a` is before `aa`, and `aa` before `b`, as Redis compares strings.
use Rattle.std.specs.Prelude.{◌≡◌, ℕ, ◌+◌, ◌==◌, true, false, List, [], ◌∷◌, codes, Option, Some, None}
use Rattle.std.specs.Prelude.{if◌then◌else◌}
use Rattle.xs_bytes.specs.Number.{is_digit, with_digit, value_of, is_number, number_of, has_leading_zero, natural_of}
use Rattle.xs_bytes.specs.Each.{with_some, each}
use Rattle.xs_bytes.specs.SortedMap.{NameMap, empty, get, has_key, keys, insert, remove, change}
use Rattle.xs_bytes.specs.MapOf.{from_entries}

pub record Numbers : Type 0 where
  pub the_first_digit : is_digit 48 ≡ true
  pub the_last_digit : is_digit 57 ≡ true
  pub below_the_digits : is_digit 47 ≡ false
  pub above_the_digits : is_digit 58 ≡ false
  pub one_digit_more : with_digit 12 51 ≡ 123
  pub three_digits : value_of (codes "120") ≡ 120
  pub leading_zeros_are_worth_nothing : value_of (codes "0012") ≡ 12
  pub digits : is_number (codes "0123456789") ≡ true
  pub no_digits : is_number [] ≡ false
  pub a_letter_at_the_end : is_number (codes "12a") ≡ false
  pub a_letter_first : is_number (codes "a12") ≡ false
  pub a_number : number_of (codes "120") ≡ Some 120
  pub with_leading_zeros : number_of (codes "007") ≡ Some 7
  pub the_greatest : number_of (codes "18446744073709551615") ≡ Some 18446744073709551615
  pub past_the_greatest : number_of (codes "18446744073709551616") ≡ None
  pub no_number : number_of (codes "-1") ≡ None
  pub zero_leads : has_leading_zero (codes "01") ≡ true
  pub two_zeros_lead : has_leading_zero (codes "00") ≡ true
  pub zero_alone_doesnt : has_leading_zero (codes "0") ≡ false
  pub zero_inside_doesnt : has_leading_zero (codes "10") ≡ false
  pub nothing_leads : has_leading_zero [] ≡ false
  pub as_printed : natural_of (codes "10") ≡ Some 10
  pub zero_as_printed : natural_of (codes "0") ≡ Some 0
  pub not_as_printed : natural_of (codes "07") ≡ None
  pub no_text : natural_of [] ≡ None
  pub the_greatest_as_printed : natural_of (codes "18446744073709551615") ≡ Some 18446744073709551615
  pub past_the_greatest_as_printed : natural_of (codes "18446744073709551616") ≡ None

-- three names and their numbers
abbrev pub three : NameMap ℕ
three = from_entries ((codes "b", 2) ∷ (codes "aa", 1) ∷ (codes "c", 3) ∷ [])

-- no name
abbrev pub none : NameMap ℕ
none = empty

-- twice a number; None for 2
abbrev pub twice : List ℕ → ℕ → Option ℕ
twice name number = if number == 2 then None else Some (number + number)

pub record Maps : Type 0 where
  pub in_the_order_of_bytes : keys three ≡ codes "aa" ∷ codes "b" ∷ codes "c" ∷ []
  pub the_first_of_two_stands :
      (from_entries {X = ℕ} ((codes "a", 1) ∷ (codes "a", 2) ∷ [])).entries ≡ (codes "a", 1) ∷ []
  pub has : get three (codes "b") ≡ Some 2
  pub hasnt : get three (codes "a") ≡ None
  pub has_its_key : has_key three (codes "c") ≡ true
  pub hasnt_a_longer_one : has_key three (codes "cc") ≡ false
  pub nothing_at_all : get none (codes "a") ≡ None
  pub put_first :
      (insert three (codes "a") 9).entries
      ≡ (codes "a", 9) ∷ (codes "aa", 1) ∷ (codes "b", 2) ∷ (codes "c", 3) ∷ []
  pub put_last :
      (insert three (codes "d") 9).entries
      ≡ (codes "aa", 1) ∷ (codes "b", 2) ∷ (codes "c", 3) ∷ (codes "d", 9) ∷ []
  pub put_again : (insert three (codes "b") 9).entries ≡ (codes "aa", 1) ∷ (codes "b", 9) ∷ (codes "c", 3) ∷ []
  pub removed : (remove three (codes "b")).entries ≡ (codes "aa", 1) ∷ (codes "c", 3) ∷ []
  pub nothing_removed : (remove three (codes "a")).entries ≡ (codes "aa", 1) ∷ (codes "b", 2) ∷ (codes "c", 3) ∷ []
  pub each_changed : (change twice three).entries ≡ (codes "aa", 2) ∷ (codes "c", 6) ∷ []
  pub a_value_kept : with_some {X = ℕ} (codes "a") (Some 1) ((codes "b", 2) ∷ []) ≡ (codes "a", 1) ∷ (codes "b", 2) ∷ []
  pub no_value_kept : with_some {X = ℕ} (codes "a") None ((codes "b", 2) ∷ []) ≡ (codes "b", 2) ∷ []
  pub each_entry :
      each twice ((codes "b", 2) ∷ (codes "a", 1) ∷ (codes "c", 4) ∷ []) ≡ (codes "a", 2) ∷ (codes "c", 8) ∷ []
