use Rattle.std.proofs.Common.{◌≡◌, ℕ, List, [], ◌∷◌, decimal, codes, bytes_eq, None, refl, sym, ap, ◌∙◌, subst, arith}
use Rattle.std.proofs.lemmas.Bool.{false≢true}
use Rattle.std.specs.List.{AllByRecursion}
use Rattle.xs_tape.specs.Records.{record_words}
use Rattle.xs_replay.specs.After.{new_server}
use Rattle.xs_replay.specs.Pieces.{Piece, pieces_of}
use Rattle.xs_replay.specs.Snapshot.{snapshot_header, piece_records, IsSnapshot}
use Rattle.xs_replay.specs.SnapshotWords.{Fits}
use Rattle.xs_replay.specs.ExamplesSnapshot.{nothing_but}
use Rattle.xs_replay.proofs.Computing.{example_functions}
use Rattle.xs_replay.proofs.Logs.{same-plain}
use Rattle.xs_replay.proofs.examples.snapshots.Goals as goal

no_pieces : pieces_of new_server.content ≡ []
unfolding example_functions
no_pieces = refl

zero_text : codes "0" ≡ decimal 0
unfolding example_functions
zero_text = refl

-- the snapshot before any event
nothing-written : (requests : List (List (List ℕ))) → IsSnapshot 1 requests new_server → requests ≡ nothing_but (decimal 0)
nothing-written requests is = is.stands ∙ ap (λ (pieces : List Piece). snapshot_header 1 None ∷ piece_records pieces) no_pieces

other_count : IsSnapshot 1 (nothing_but (codes "1")) new_server → ⊥
other_count is =
    let written = nothing-written (nothing_but (codes "1")) is in
    let ends : record_words (codes "END") (codes "1" ∷ []) ≡ record_words (codes "END") (decimal 0 ∷ []) = cc in
    let counts = (same-plain (codes "END") (codes "END") (codes "1" ∷ []) (decimal 0 ∷ []) ends).1 in
    let count : codes "1" ≡ decimal 0 = cc in
    false≢true (ap (bytes_eq (codes "0")) (count ∙ sym zero_text))

pub returns : goal.returns
returns c = record {
  the_name_of_its_header = refl;
  of_nothing = record {
    stands = ap nothing_but zero_text ∙ sym (ap (λ (pieces : List Piece). snapshot_header 1 None ∷ piece_records pieces) no_pieces);
    number_small = omega arith;
    moment_small = tt;
    fits = subst (λ (pieces : List Piece). AllByRecursion Fits pieces) (sym no_pieces) tt;
  };
  not_of_another_count = other_count;
  not_without_its_end = λ is. let written = nothing-written _ is in cc;
  not_with_more = λ is. let written = nothing-written _ is in cc;
  not_of_no_requests = λ is. let written = nothing-written _ is in cc;
}
