-- The words of a snapshot, by examples. (They are this server's own; numbers are spelled as Redis prints them.)
use Rattle.std.specs.Prelude.{◌≡◌, ℕ, List, [], ◌∷◌, ◌++◌, codes, Some, None}
use Rattle.xs_stream.specs.declared.id.Id.{Id}
use Rattle.xs_stream.specs.Examples.{at}
use Rattle.xs_stream.specs.Id.{greatest_id}
use Rattle.xs_group.specs.GroupState.{greatest_count}
use Rattle.xs_command.specs.Examples.{line}
use Rattle.xs_tape.specs.Records.{record_words}
use Rattle.xs_replay.specs.Pieces.{Piece, of_key, of_entry, of_group, of_consumer, of_row}
use Rattle.xs_replay.specs.SnapshotWords.{words_of_piece, Fits}
use Rattle.xs_replay.specs.PieceReading.{piece_of_words}
use Rattle.xs_replay.specs.After.{new_server}
use Rattle.xs_replay.specs.Snapshot.{header_values, snapshot_header, IsSnapshot}
use Rattle.xs_replay.specs.ExamplesPieces.{fields, row_of}

-- more entries were added than a number of 64 bits counts
abbrev pub a_great_count : Piece
a_great_count = of_key (codes "j") greatest_id 27670116110564327427 (at 0 0)

-- pending with d
abbrev pub a_row : Id → ℕ → ℕ → Piece
a_row id time count = of_row id (record { consumer = codes "d"; time = time; count = count })

abbrev pub a_late_row : Piece
a_late_row = a_row (at 1 0) 9223372036854775807 greatest_count

pub record Words : Type 0 where
  pub a_key : words_of_piece (of_key (codes "j") (at 4 1) 5 (at 2 7)) ≡ line (codes "KEY j 4 1 0 5 2 7")
  pub many_entries :
      words_of_piece a_great_count
      ≡ line (codes "KEY j 18446744073709551615 18446744073709551615 1 9223372036854775811 0 0")
  pub an_entry : words_of_piece (of_entry (at 1 0) fields) ≡ line (codes "ENTRY 1 0 f v f w")
  pub a_group : words_of_piece (of_group (codes "w") (at 3 2)) ≡ line (codes "GROUP w 3 2")
  pub a_consumer : words_of_piece (of_consumer (codes "d") 50) ≡ line (codes "CONSUMER d 50")
  pub a_row : words_of_piece (of_row (at 1 0) (row_of (codes "d"))) ≡ line (codes "ROW 1 0 d 60 2")
  pub a_header : header_values 3 (Some 8) ≡ line (codes "1 3 1 8")
  pub a_header_before_any_event : header_values 2 None ≡ line (codes "1 2 1")

pub record Readings : Type 0 where
  pub a_key : piece_of_words (line (codes "KEY j 4 1 0 5 2 7")) ≡ Some (of_key (codes "j") (at 4 1) 5 (at 2 7))
  pub many_entries :
      piece_of_words (line (codes "KEY j 18446744073709551615 18446744073709551615 1 9223372036854775811 0 0"))
      ≡ Some a_great_count
  pub an_entry : piece_of_words (line (codes "ENTRY 1 0 f v f w")) ≡ Some (of_entry (at 1 0) fields)
  pub an_entry_without_fields : piece_of_words (line (codes "ENTRY 1 0")) ≡ Some (of_entry (at 1 0) [])
  pub a_group : piece_of_words (line (codes "GROUP w 3 2")) ≡ Some (of_group (codes "w") (at 3 2))
  pub a_consumer : piece_of_words (line (codes "CONSUMER d 50")) ≡ Some (of_consumer (codes "d") 50)
  pub a_row : piece_of_words (line (codes "ROW 1 0 d 60 2")) ≡ Some (of_row (at 1 0) (row_of (codes "d")))
  pub the_greatest_numbers :
      piece_of_words (line (codes "ROW 1 0 d 9223372036854775807 9223372036854775807")) ≡ Some a_late_row
  pub a_name_may_be_empty : piece_of_words (codes "CONSUMER" ∷ [] ∷ codes "50" ∷ []) ≡ Some (of_consumer [] 50)
  pub no_words : piece_of_words [] ≡ None
  pub another_kind : piece_of_words (line (codes "STREAM j 4 1 0 5 2 7")) ≡ None
  pub another_kind_with_a_row_s_values : piece_of_words (line (codes "PENDING 1 0 d 60 2")) ≡ None
  pub small_letters : piece_of_words (line (codes "key j 4 1 0 5 2 7")) ≡ None
  pub the_end_is_no_piece : piece_of_words (line (codes "END 8")) ≡ None
  pub a_word_too_few : piece_of_words (line (codes "KEY j 4 1 0 5 2")) ≡ None
  pub a_word_too_many : piece_of_words (line (codes "GROUP w 3 2 1")) ≡ None
  pub a_name_without_a_value : piece_of_words (line (codes "ENTRY 1 0 f v f")) ≡ None
  pub a_row_without_its_count : piece_of_words (line (codes "ROW 1 0 d 60")) ≡ None
  pub a_leading_zero : piece_of_words (line (codes "GROUP w 03 2")) ≡ None
  pub no_number : piece_of_words (line (codes "CONSUMER d x")) ≡ None
  pub too_great_an_id : piece_of_words (line (codes "GROUP w 18446744073709551616 0")) ≡ None
  pub too_great_a_moment : piece_of_words (line (codes "CONSUMER d 9223372036854775808")) ≡ None
  pub too_great_a_count : piece_of_words (line (codes "ROW 1 0 d 60 9223372036854775808")) ≡ None

pub record InRange : Type 0 where
  pub many_entries : Fits a_great_count
  pub the_greatest_numbers : Fits a_late_row
  pub the_most_entries : Fits (of_key (codes "j") greatest_id 340282366920938463463374607431768211455 greatest_id)
  pub no_more_entries : Fits (of_key (codes "j") (at 0 0) 340282366920938463463374607431768211456 (at 0 0)) → ⊥
  pub no_greater_top : Fits (of_key (codes "j") (at 18446744073709551616 0) 1 (at 0 0)) → ⊥
  pub no_greater_deleted_id : Fits (of_key (codes "j") (at 0 0) 1 (at 0 18446744073709551616)) → ⊥
  pub no_greater_id_of_an_entry : Fits (of_entry (at 0 18446744073709551616) fields) → ⊥
  pub no_greater_cursor : Fits (of_group (codes "w") (at 18446744073709551616 0)) → ⊥
  pub the_greatest_moment : Fits (of_consumer (codes "d") 9223372036854775807)
  pub no_greater_moment : Fits (of_consumer (codes "d") 9223372036854775808) → ⊥
  pub no_greater_id_of_a_row : Fits (a_row (at 18446744073709551616 0) 60 2) → ⊥
  pub no_greater_time : Fits (a_row (at 1 0) 9223372036854775808 2) → ⊥
  pub no_greater_count : Fits (a_row (at 1 0) 60 9223372036854775808) → ⊥

-- before any event: a header, and an end with the number of pieces
abbrev pub nothing_but : List ℕ → List (List (List ℕ))
nothing_but count = snapshot_header 1 None ∷ record_words (codes "END") (count ∷ []) ∷ []

pub record Snapshots : Type 0 where
  pub the_name_of_its_header :
      snapshot_header 3 (Some 8) ≡ record_words (codes "xs-snapshot") (header_values 3 (Some 8))
  pub of_nothing : IsSnapshot 1 (nothing_but (codes "0")) new_server
  pub not_of_another_count : IsSnapshot 1 (nothing_but (codes "1")) new_server → ⊥
  pub not_without_its_end : IsSnapshot 1 (snapshot_header 1 None ∷ []) new_server → ⊥
  pub not_with_more : IsSnapshot 1 (nothing_but (codes "0") ++ nothing_but (codes "0")) new_server → ⊥
  pub not_of_no_requests : IsSnapshot 1 [] new_server → ⊥
