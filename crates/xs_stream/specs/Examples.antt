-- The meaning of ids and ranges, by examples of the Redis documentation (Redis Streams, "Entry IDs"; XADD, XRANGE) and
-- the replies of a real Redis 7.0. A rule that is this server's is marked "own".
use Rattle.std.specs.Prelude.{◌≡◌, ℕ, ◌+◌, ◌^◌, true, false, [], ◌∷◌, codes, Some, None, Ok, Err}
use Rattle.xs_stream.specs.declared.id.Id.{Id}
use Rattle.xs_stream.specs.declared.add.AddId.TheVariants.{Auto, AutoSeq, Exact}
use Rattle.xs_stream.specs.declared.add.AddError.TheVariants.{Small, Exhausted}
use Rattle.xs_stream.specs.Id.{is_below, is_same_id, has_id, greatest_number, zero_id, greatest_id, id_text, successor}
use Rattle.xs_stream.specs.Id.{id_of_addition}
use Rattle.xs_stream.specs.IdText.{next_id, previous_id, id_number, parse_id}
use Rattle.xs_stream.specs.RangeText.{low_end, high_end, range_between}
use Rattle.xs_stream.specs.ConsistentStream.{IsId, AllIds}

abbrev pub at : ℕ → ℕ → Id
at ms seq = record { ms = ms; seq = seq }

pub record Order : Type 0 where
  pub milliseconds_first : is_below (at 1 9) (at 2 0) ≡ true
  pub not_the_sequence_first : is_below (at 2 0) (at 1 9) ≡ false
  pub sequence_within_a_millisecond : is_below (at 1 1) (at 1 2) ≡ true
  pub greater_sequence : is_below (at 1 2) (at 1 1) ≡ false
  pub not_below_itself : is_below (at 1 1) (at 1 1) ≡ false
  pub same : is_same_id (at 1 2) (at 1 2) ≡ true
  pub another_sequence : is_same_id (at 1 2) (at 1 3) ≡ false
  pub another_millisecond : is_same_id (at 1 2) (at 2 2) ≡ false
  pub the_first_of_three : has_id (at 1 0 ∷ at 1 1 ∷ at 2 0 ∷ []) (at 1 0) ≡ true
  pub the_last_of_three : has_id (at 1 0 ∷ at 1 1 ∷ at 2 0 ∷ []) (at 2 0) ≡ true
  pub none_of_three : has_id (at 1 0 ∷ at 1 1 ∷ at 2 0 ∷ []) (at 2 1) ≡ false
  pub none_at_all : has_id [] (at 0 0) ≡ false

pub record Bounds : Type 0 where
  pub numbers_of_64_bits : greatest_number + 1 ≡ 2 ^ 64
  pub the_least : id_text zero_id ≡ codes "0-0"
  pub the_greatest : id_text greatest_id ≡ codes "18446744073709551615-18446744073709551615"
  pub as_printed : id_text (at 1526919030474 55) ≡ codes "1526919030474-55"

-- both numbers have 64 bits
pub record Numbers : Type 0 where
  pub of_64_bits : IsId greatest_id
  pub too_many_milliseconds : IsId (at (2 ^ 64) 0) → ⊥
  pub too_great_a_sequence : IsId (at 0 (2 ^ 64)) → ⊥
  pub several : AllIds (zero_id ∷ greatest_id ∷ [])
  pub the_last_too_great : AllIds (zero_id ∷ at 0 (2 ^ 64) ∷ []) → ⊥

pub record Neighbours : Type 0 where
  pub after_a_sequence : successor (at 5 7) ≡ at 5 8
  pub to_the_last_sequence : successor (at 5 18446744073709551614) ≡ at 5 18446744073709551615
  pub past_the_last_sequence : successor (at 5 18446744073709551615) ≡ at 6 0
  pub next : next_id (at 5 7) ≡ Some (at 5 8)
  pub next_to_the_last_sequence : next_id (at 5 18446744073709551614) ≡ Some (at 5 18446744073709551615)
  pub next_past_the_last_sequence : next_id (at 5 18446744073709551615) ≡ Some (at 6 0)
  pub next_in_the_last_millisecond :
      next_id (at 18446744073709551614 18446744073709551615) ≡ Some (at 18446744073709551615 0)
  pub next_is_the_greatest : next_id (at 18446744073709551615 18446744073709551614) ≡ Some greatest_id
  pub none_above_the_greatest : next_id greatest_id ≡ None
  pub previous : previous_id (at 5 7) ≡ Some (at 5 6)
  pub previous_to_sequence_one : previous_id (at 5 1) ≡ Some (at 5 0)
  pub previous_to_sequence_zero : previous_id (at 5 0) ≡ Some (at 4 18446744073709551615)
  pub previous_in_millisecond_zero : previous_id (at 1 0) ≡ Some (at 0 18446744073709551615)
  pub previous_is_the_least : previous_id (at 0 1) ≡ Some (at 0 0)
  pub none_below_the_least : previous_id (at 0 0) ≡ None

-- XADD with `*`, `ms-*` and an id
pub record Assigned : Type 0 where
  pub now_is_later : id_of_addition 1000 (at 999 5) Auto ≡ Ok (at 1000 0)
  pub now_again : id_of_addition 1000 (at 1000 5) Auto ≡ Ok (at 1000 6)
  pub now_is_earlier : id_of_addition 900 (at 1000 5) Auto ≡ Ok (at 1000 6)
  pub now_at_the_last_sequence : id_of_addition 5 (at 5 18446744073709551615) Auto ≡ Ok (at 6 0)
  pub first_at_moment_zero : id_of_addition 0 zero_id Auto ≡ Ok (at 0 1)
  pub first_at_moment_one : id_of_addition 1 zero_id Auto ≡ Ok (at 1 0)
  pub next_in_its_millisecond :
      id_of_addition 1 (at 1526919030474 55) (AutoSeq 1526919030474) ≡ Ok (at 1526919030474 56)
  pub first_in_millisecond_zero : id_of_addition 5 zero_id (AutoSeq 0) ≡ Ok (at 0 1)
  pub first_in_a_later_one : id_of_addition 1 (at 4 7) (AutoSeq 5) ≡ Ok (at 5 0)
  pub first_in_a_later_one_of_a_new_stream : id_of_addition 1 zero_id (AutoSeq 5) ≡ Ok (at 5 0)
  pub none_in_an_earlier_one : id_of_addition 9 (at 4 7) (AutoSeq 3) ≡ Err Small
  pub last_in_its_millisecond :
      id_of_addition 1 (at 5 18446744073709551614) (AutoSeq 5) ≡ Ok (at 5 18446744073709551615)
  pub no_more_in_its_millisecond : id_of_addition 1 (at 5 18446744073709551615) (AutoSeq 5) ≡ Err Small
  pub written_above : id_of_addition 1 (at 4 7) (Exact (at 4 8)) ≡ Ok (at 4 8)
  pub written_for_a_new_stream : id_of_addition 9 zero_id (Exact (at 5 0)) ≡ Ok (at 5 0)
  pub written_at_the_top : id_of_addition 1 (at 4 7) (Exact (at 4 7)) ≡ Err Small
  pub written_below : id_of_addition 9 (at 4 7) (Exact (at 4 6)) ≡ Err Small
  pub written_in_a_later_one : id_of_addition 1 (at 4 7) (Exact (at 5 0)) ≡ Ok (at 5 0)
  pub written_in_an_earlier_one : id_of_addition 9 (at 4 7) (Exact (at 3 9)) ≡ Err Small
  pub next_is_the_greatest : id_of_addition 1 (at 18446744073709551615 18446744073709551614) Auto ≡ Ok greatest_id
  pub the_greatest_written :
      id_of_addition 1 (at 18446744073709551615 18446744073709551614) (Exact greatest_id) ≡ Ok greatest_id
  pub none_behind_the_greatest : id_of_addition 1 greatest_id Auto ≡ Err Exhausted
  pub no_sequence_behind_the_greatest : id_of_addition 1 greatest_id (AutoSeq 18446744073709551615) ≡ Err Exhausted
  pub written_behind_the_greatest : id_of_addition 1 greatest_id (Exact (at 1 1)) ≡ Err Exhausted

-- ids in words; own: at most twenty digits and no sign
pub record Texts : Type 0 where
  pub zero : id_number (codes "0") ≡ Some 0
  pub leading_zeros : id_number (codes "007") ≡ Some 7
  pub nine_and_zero : id_number (codes "90") ≡ Some 90
  pub no_digit : id_number [] ≡ None
  pub before_the_digits : id_number (codes "/") ≡ None
  pub behind_the_digits : id_number (codes ":") ≡ None
  pub a_letter_behind : id_number (codes "1a") ≡ None
  pub a_letter_before : id_number (codes "a1") ≡ None
  pub a_sign : id_number (codes "+1") ≡ None
  pub the_greatest_number : id_number (codes "18446744073709551615") ≡ Some 18446744073709551615
  pub a_greater_number : id_number (codes "18446744073709551616") ≡ None
  pub twenty_digits : id_number (codes "00000000000000000001") ≡ Some 1
  pub more_digits : id_number (codes "000000000000000000001") ≡ None
  pub both_numbers : parse_id (codes "1526919030474-55") 0 ≡ Some (at 1526919030474 55)
  pub both_whatever_is_missing : parse_id (codes "1-2") 18446744073709551615 ≡ Some (at 1 2)
  pub zeros_in_both : parse_id (codes "007-01") 0 ≡ Some (at 7 1)
  pub milliseconds_alone : parse_id (codes "5") 0 ≡ Some (at 5 0)
  pub milliseconds_alone_at_the_high_end : parse_id (codes "5") 18446744073709551615 ≡ Some (at 5 18446744073709551615)
  pub a_dash_behind : parse_id (codes "5-") 0 ≡ None
  pub a_dash_before : parse_id (codes "-5") 0 ≡ None
  pub a_dash_alone : parse_id (codes "-") 0 ≡ None
  pub three_numbers : parse_id (codes "1-2-3") 0 ≡ None
  pub no_word : parse_id [] 0 ≡ None
  pub another_sequence : parse_id (codes "5-x") 0 ≡ None
  pub another_word : parse_id (codes "*") 0 ≡ None
  pub too_great_a_sequence : parse_id (codes "5-18446744073709551616") 0 ≡ None

-- XRANGE: "special IDs", "incomplete IDs", "exclusive ranges"
pub record Ends : Type 0 where
  pub least : low_end (codes "-") ≡ Some (at 0 0)
  pub greatest_at_the_low_end : low_end (codes "+") ≡ Some greatest_id
  pub low : low_end (codes "5-3") ≡ Some (at 5 3)
  pub low_of_a_millisecond : low_end (codes "5") ≡ Some (at 5 0)
  pub low_of_a_longer_one : low_end (codes "1526985054069") ≡ Some (at 1526985054069 0)
  pub low_left_out : low_end (codes "(5-3") ≡ Some (at 5 4)
  pub low_left_out_of_a_millisecond : low_end (codes "(5") ≡ Some (at 5 1)
  pub low_left_out_at_the_last_sequence : low_end (codes "(5-18446744073709551615") ≡ Some (at 6 0)
  pub nothing_past_the_greatest : low_end (codes "(18446744073709551615-18446744073709551615") ≡ None
  pub least_at_the_high_end : high_end (codes "-") ≡ Some (at 0 0)
  pub greatest : high_end (codes "+") ≡ Some greatest_id
  pub high : high_end (codes "5-3") ≡ Some (at 5 3)
  pub high_of_a_millisecond : high_end (codes "5") ≡ Some (at 5 18446744073709551615)
  pub high_of_a_longer_one : high_end (codes "1526985054069") ≡ Some (at 1526985054069 18446744073709551615)
  pub high_left_out : high_end (codes "(5-3") ≡ Some (at 5 2)
  pub high_left_out_of_a_millisecond : high_end (codes "(5") ≡ Some (at 5 18446744073709551614)
  pub high_left_out_at_sequence_zero : high_end (codes "(5-0") ≡ Some (at 4 18446744073709551615)
  pub high_left_out_above_the_least : high_end (codes "(0-1") ≡ Some (at 0 0)
  pub nothing_below_the_least : high_end (codes "(0-0") ≡ None
  pub mark_alone : low_end (codes "(") ≡ None
  pub mark_alone_at_the_high_end : high_end (codes "(") ≡ None
  pub least_left_out : low_end (codes "(-") ≡ None
  pub greatest_left_out : high_end (codes "(+") ≡ None
  pub no_word : low_end [] ≡ None
  pub no_word_at_the_high_end : high_end [] ≡ None
  pub another_word : low_end (codes "x") ≡ None
  pub both_ends :
      range_between (low_end (codes "1")) (high_end (codes "2"))
      ≡ Some (record { low = at 1 0; high = at 2 greatest_number })
  pub no_low_end : range_between None (Some (at 2 0)) ≡ None
  pub no_high_end : range_between (Some (at 1 0)) None ≡ None
