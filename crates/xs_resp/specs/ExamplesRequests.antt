-- Requests from bytes, by examples of the RESP protocol specification (version 2): an array of bulk strings. Which
-- fault is reported, and that no number has a sign or leading zeros, are this server's own.
use Rattle.std.specs.Prelude.{◌≡◌, ℕ, ◌++◌, true, false, List, [], ◌∷◌, codes, Some, None, Ok, Err}
use Rattle.xs_resp.specs.declared.read_fault.ProtocolFault.TheVariants.{Length, Shape, Limit}
use Rattle.xs_resp.specs.declared.read_fault.ReadFault.TheVariants as fault
use Rattle.xs_resp.specs.Outcome.{Outcome}
use Rattle.xs_resp.specs.Reading.{Found, request}
use Rattle.xs_resp.specs.HeldBytes.{with_piece, front_of, held_length, holds_bytes, HasNext, Next, Ready, Skips}
use Rattle.xs_resp.specs.Examples.{wire}

-- these words, in this many bytes
abbrev pub found : List (List ℕ) → ℕ → Outcome Found
found words end = Ok (Some (record { words = words; end = end }))

-- more bytes decide
abbrev pub undecided : Outcome Found
undecided = Ok None

pub record Requests : Type 0 where
  pub one_word : request (wire (codes "*1^$4^PING^")) ≡ found (codes "PING" ∷ []) 14
  pub two_words : request (wire (codes "*2^$4^LLEN^$6^mylist^")) ≡ found (codes "LLEN" ∷ codes "mylist" ∷ []) 26
  pub empty_words : request (wire (codes "*3^$1^a^$0^^$0^^")) ≡ found (codes "a" ∷ [] ∷ [] ∷ []) 23
  pub line_end_in_a_word : request (wire (codes "*1^$4^a^b^")) ≡ found (wire (codes "a^b") ∷ []) 14
  pub word_of_ten : request (wire (codes "*1^$10^0123456789^")) ≡ found (codes "0123456789" ∷ []) 21
  pub no_words : request (wire (codes "*0^")) ≡ found [] 4
  pub null : request (wire (codes "*-1^")) ≡ found [] 5
  pub no_words_first : request (wire (codes "*0^*1^$4^PING^")) ≡ found [] 4
  pub the_first_of_two : request (wire (codes "*1^$4^PING^*1^$4^QUIT^")) ≡ found (codes "PING" ∷ []) 14
  pub a_fault_behind : request (wire (codes "*1^$4^PING^x")) ≡ found (codes "PING" ∷ []) 14

pub record Undecided : Type 0 where
  pub nothing : request [] ≡ undecided
  pub marker : request (codes "*") ≡ undecided
  pub number : request (codes "*1") ≡ undecided
  pub cr : request (codes "*1" ++ 13 ∷ []) ≡ undecided
  pub header : request (wire (codes "*1^")) ≡ undecided
  pub word_header : request (wire (codes "*1^$4^")) ≡ undecided
  pub part_of_a_word : request (wire (codes "*1^$4^PIN")) ≡ undecided
  pub word_without_its_end : request (wire (codes "*1^$4^PING")) ≡ undecided
  pub word_with_cr : request (wire (codes "*1^$4^PING") ++ 13 ∷ []) ≡ undecided
  pub one_word_of_two : request (wire (codes "*2^$4^PING^")) ≡ undecided
  pub as_many_words_as_may_be : request (wire (codes "*1048576^")) ≡ undecided
  pub as_long_a_word_as_may_be : request (wire (codes "*1^$536870912^")) ≡ undecided
  pub as_long_a_header_as_may_be : request (codes "*11111111111111111111111111111") ≡ undecided

pub record Faults : Type 0 where
  pub no_array : request (codes "PING") ≡ Err Shape
  pub bulk_for_an_array : request (wire (codes "$1^")) ≡ Err Shape
  pub array_for_a_bulk : request (wire (codes "*1^*1^")) ≡ Err Shape
  pub no_lf : request (codes "*1" ++ 13 ∷ codes "x") ≡ Err Shape
  pub no_lf_in_a_word : request (wire (codes "*1^$1") ++ 13 ∷ codes "x") ≡ Err Shape
  pub no_cr_behind_a_word : request (wire (codes "*1^$4^PINGx")) ≡ Err Shape
  pub no_lf_behind_a_word : request (wire (codes "*1^$1^a") ++ 13 ∷ codes "x") ≡ Err Shape
  pub no_cr_before_an_lf : request (wire (codes "*1^$1^a") ++ 120 ∷ 10 ∷ []) ≡ Err Shape
  pub in_the_second_word : request (wire (codes "*2^$1^a^*1^")) ≡ Err Shape
  pub no_number : request (wire (codes "*^")) ≡ Err Length
  pub below_null : request (wire (codes "*-2^")) ≡ Err Length
  pub a_longer_null : request (wire (codes "*-10^")) ≡ Err Length
  pub leading_zero : request (wire (codes "*01^")) ≡ Err Length
  pub two_zeros : request (wire (codes "*00^")) ≡ Err Length
  pub a_letter : request (wire (codes "*1x^")) ≡ Err Length
  pub null_word : request (wire (codes "*1^$-1^")) ≡ Err Length
  pub leading_zero_of_a_word : request (wire (codes "*1^$03^")) ≡ Err Length
  pub no_number_of_a_word : request (wire (codes "*1^$^")) ≡ Err Length
  pub one_word_too_many : request (wire (codes "*1048577^")) ≡ Err Limit
  pub a_word_too_long : request (wire (codes "*1^$536870913^")) ≡ Err Limit
  pub a_number_too_long : request (wire (codes "*11111111111111111111111111111^")) ≡ Err Limit
  pub a_header_too_long : request (codes "*111111111111111111111111111111") ≡ Err Limit
  pub a_header_too_long_with_its_end : request (wire (codes "*111111111111111111111111111111^")) ≡ Err Limit
  pub a_word_header_too_long : request (wire (codes "*1^$111111111111111111111111111111")) ≡ Err Limit

pub record Reader : Type 0 where
  pub a_piece_more : with_piece (Ok (codes "*1")) (codes "23") ≡ Ok (codes "*123")
  pub a_failed_reader : with_piece (Err Limit) (codes "23") ≡ Err Limit
  pub four_bytes : held_length (Ok (codes "PING")) ≡ 4
  pub none_of_a_failed_reader : held_length (Err Shape) ≡ 0
  pub partial : holds_bytes (Ok (codes "*")) ≡ true
  pub empty : holds_bytes (Ok []) ≡ false
  pub failed : holds_bytes (Err Length) ≡ false
  pub gives_a_request :
      Next (Ok (wire (codes "*1^$4^PING^*0"))) (Ok (Some (codes "PING" ∷ []))) (Ok (codes "*0"))
  pub holds_a_request_without_memory :
      Next (Ok (wire (codes "*1^$4^PING^"))) (Err fault.Memory) (Ok (wire (codes "*1^$4^PING^")))
  pub holds_what_is_undecided : Next (Ok (codes "*1")) (Ok None) (Ok (codes "*1"))
  pub fails_by_length : Next (Ok (wire (codes "*1^$03^"))) (Err fault.Length) (Err Length)
  pub fails_by_shape : Next (Ok (codes "PING")) (Err fault.Shape) (Err Shape)
  pub fails_by_limit : Next (Ok (wire (codes "*1048577^"))) (Err fault.Limit) (Err Limit)
  pub stays_failed : Next (Err Shape) (Err fault.Shape) (Err Shape)
  pub loses_no_byte : Next (Ok (wire (codes "*0^*0^"))) (Ok (Some [])) (Ok []) → ⊥
  pub gives_no_other_words : Next (Ok (wire (codes "*1^$1^a^"))) (Ok (Some (codes "b" ∷ []))) (Ok []) → ⊥
  pub forgets_no_fault : Next (Ok (codes "x")) (Err fault.Shape) (Ok []) → ⊥
  pub waits_on_no_fault : Next (Ok (codes "x")) (Ok None) (Ok (codes "x")) → ⊥
  pub has_a_request : HasNext (Ok (wire (codes "*1^$1^a^x")))
  pub has_a_request_of_no_words : HasNext (Ok (wire (codes "*0^")))
  pub has_no_part_of_one : HasNext (Ok (wire (codes "*1^"))) → ⊥
  pub has_none_once_failed : HasNext (Err Shape) → ⊥
  pub skips_two_words : Skips (Ok (wire (codes "*2^$1^a^$0^^*0"))) (Ok (codes "*0"))
  pub skips_no_words : Skips (Ok (wire (codes "*0^*0^"))) (Ok (wire (codes "*0^")))
  pub skips_no_word_less : Skips (Ok (wire (codes "*2^$1^a^$0^^"))) (Ok (wire (codes "$0^^"))) → ⊥
  pub two_words_at_the_front : front_of (Ok (wire (codes "*2^$1^a^$0^^*0"))) ≡ codes "a" ∷ [] ∷ []
  pub no_words_at_the_front : front_of (Ok (wire (codes "*0^*1^$1^a^"))) ≡ []
  pub is_ready : Ready (Ok (wire (codes "*1^$1^a^*"))) (Ok true) (Ok (wire (codes "*1^$1^a^*")))
  pub is_not_ready : Ready (Ok (wire (codes "*1^$1^a"))) (Ok false) (Ok (wire (codes "*1^$1^a")))
  pub is_wrong : Ready (Ok (wire (codes "*1^$1^ab"))) (Err fault.Shape) (Err Shape)
  pub stays_wrong : Ready (Err Limit) (Err fault.Limit) (Err Limit)
  pub waits_for_no_whole_request : Ready (Ok (wire (codes "*1^$1^a^"))) (Ok false) (Ok (wire (codes "*1^$1^a^"))) → ⊥
