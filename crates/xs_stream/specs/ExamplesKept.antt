-- What a stream stores and shows, by examples and the replies of a real Redis 7.0 (XRANGE, XREVRANGE, XDEL, XTRIM).
use Rattle.std.specs.Prelude.{◌≡◌, true, false, List, [], ◌∷◌, codes, Some, None}
use Rattle.xs_stream.specs.declared.id.Id.{Id}
use Rattle.xs_stream.specs.declared.field.Field.{Field}
use Rattle.xs_stream.specs.declared.range.Range.{Range}
use Rattle.xs_stream.specs.declared.trim.Trim.TheVariants.{MaxLen, MinId}
use Rattle.xs_stream.specs.StreamContent.{ids_of, Ascends, AllAbove, AllUpTo, fields_at, without, count_above}
use Rattle.xs_stream.specs.StreamContent.{entries_after_trim}
use Rattle.xs_stream.specs.StreamContent.{is_within, up_to_limit, ids_within}
use Rattle.xs_stream.specs.Examples.{at}

abbrev pub a_field : Field
a_field = record { name = codes "f"; value = codes "v" }

abbrev pub another_field : Field
another_field = record { name = codes "g"; value = codes "w" }

-- four entries
abbrev pub four : List (Id × List Field)
four =
    (at 1 1, a_field ∷ []) ∷ (at 1 2, a_field ∷ another_field ∷ []) ∷ (at 2 1, another_field ∷ [])
    ∷ (at 3 0, a_field ∷ []) ∷ []

abbrev pub between : Id → Id → Range
between low high = record { low = low; high = high }

pub record Entries : Type 0 where
  pub ids : ids_of four ≡ at 1 1 ∷ at 1 2 ∷ at 2 1 ∷ at 3 0 ∷ []
  pub fields_of_the_first : fields_at four (at 1 1) ≡ Some (a_field ∷ [])
  pub all_fields : fields_at four (at 1 2) ≡ Some (a_field ∷ another_field ∷ [])
  pub fields_of_the_last : fields_at four (at 3 0) ≡ Some (a_field ∷ [])
  pub fields_of_none : fields_at four (at 1 0) ≡ None
  pub first_and_last_deleted : ids_of (without (at 1 1 ∷ at 3 0 ∷ []) four) ≡ at 1 2 ∷ at 2 1 ∷ []
  pub deleted_in_any_order : ids_of (without (at 3 0 ∷ at 9 9 ∷ at 1 1 ∷ []) four) ≡ at 1 2 ∷ at 2 1 ∷ []
  pub fields_stay : without (at 1 1 ∷ at 2 1 ∷ at 3 0 ∷ []) four ≡ (at 1 2, a_field ∷ another_field ∷ []) ∷ []
  pub none_deleted : without (at 1 0 ∷ []) four ≡ four
  pub ascending : Ascends (ids_of four)
  pub twice_is_no_order : Ascends (at 1 1 ∷ at 1 1 ∷ []) → ⊥
  pub below_the_first : Ascends (at 1 2 ∷ at 2 0 ∷ at 1 1 ∷ []) → ⊥
  pub all_above : AllAbove (at 1 0) (at 2 0 ∷ at 1 1 ∷ [])
  pub last_isnt_above : AllAbove (at 1 1) (at 2 0 ∷ at 1 1 ∷ []) → ⊥
  pub up_to_the_top : AllUpTo (at 3 0) (ids_of four)
  pub last_above_the_top : AllUpTo (at 2 9) (ids_of four) → ⊥
  pub first_above_the_top : AllUpTo (at 2 0) (at 2 1 ∷ at 1 0 ∷ []) → ⊥

pub record Trims : Type 0 where
  pub above_the_first : count_above (at 1 1) (ids_of four) ≡ 3
  pub above_the_last : count_above (at 3 0) (ids_of four) ≡ 0
  pub keeps_the_two_greatest : ids_of (entries_after_trim (MaxLen 2) four) ≡ at 2 1 ∷ at 3 0 ∷ []
  pub keeps_the_greatest : ids_of (entries_after_trim (MaxLen 1) four) ≡ at 3 0 ∷ []
  pub keeps_none : entries_after_trim (MaxLen 0) four ≡ []
  pub keeps_as_many_as_there_are : entries_after_trim (MaxLen 4) four ≡ four
  pub keeps_more_than_there_are : entries_after_trim (MaxLen 5) four ≡ four
  pub drops_those_below : ids_of (entries_after_trim (MinId (at 1 2)) four) ≡ at 1 2 ∷ at 2 1 ∷ at 3 0 ∷ []
  pub drops_those_of_earlier_milliseconds : ids_of (entries_after_trim (MinId (at 2 0)) four) ≡ at 2 1 ∷ at 3 0 ∷ []
  pub drops_within_a_millisecond : ids_of (entries_after_trim (MinId (at 2 2)) four) ≡ at 3 0 ∷ []
  pub drops_none : entries_after_trim (MinId (at 0 0)) four ≡ four
  pub drops_all : entries_after_trim (MinId (at 3 1)) four ≡ []
  pub fields_stay : entries_after_trim (MaxLen 1) four ≡ (at 3 0, a_field ∷ []) ∷ []

pub record Ranges : Type 0 where
  pub low_end_belongs : is_within (between (at 1 2) (at 2 1)) (at 1 2) ≡ true
  pub high_end_belongs : is_within (between (at 1 2) (at 2 1)) (at 2 1) ≡ true
  pub below_the_low_end : is_within (between (at 1 2) (at 2 1)) (at 1 1) ≡ false
  pub above_the_high_end : is_within (between (at 1 2) (at 2 1)) (at 2 2) ≡ false
  pub from_the_least : ids_within (between (at 1 2) (at 2 1)) false four ≡ at 1 2 ∷ at 2 1 ∷ []
  pub from_the_greatest : ids_within (between (at 1 2) (at 2 1)) true four ≡ at 2 1 ∷ at 1 2 ∷ []
  pub one_id : ids_within (between (at 2 1) (at 2 1)) false four ≡ at 2 1 ∷ []
  pub ends_the_other_way : ids_within (between (at 3 0) (at 1 1)) true four ≡ []
  pub no_limit : up_to_limit None (ids_of four) ≡ ids_of four
  pub at_most_two : up_to_limit (Some 2) (ids_of four) ≡ at 1 1 ∷ at 1 2 ∷ []
  pub at_most_none : up_to_limit (Some 0) (ids_of four) ≡ []
  pub fewer_than_the_limit : up_to_limit (Some 5) (ids_of four) ≡ ids_of four
