use Rattle.std.proofs.Common.{refl, inl, inr, rules}
use Rattle.xs_resp.specs.HeaderPart.{number_in, is_natural}
use Rattle.xs_resp.specs.Header.{header, line_at}
use Rattle.xs_resp.specs.Reading.{bulk_string, words, request}
use Rattle.xs_resp.proofs.Skipping.{not-whole, skip-left}
use Rattle.xs_resp.proofs.examples.reader.Goals as goal

pub returns : goal.returns
unfolding number_in is_natural header line_at bulk_string words request
returns c = record {
  a_piece_more = refl;
  a_failed_reader = refl;
  four_bytes = refl;
  none_of_a_failed_reader = refl;
  partial = refl;
  empty = refl;
  failed = refl;
  gives_a_request = inl (refl, refl);
  holds_a_request_without_memory = inr (refl, refl);
  holds_what_is_undecided = (refl, refl);
  fails_by_length = (refl, refl);
  fails_by_shape = (refl, refl);
  fails_by_limit = (refl, refl);
  stays_failed = (refl, refl);
  loses_no_byte = search rules;
  gives_no_other_words = search rules;
  forgets_no_fault = search rules;
  waits_on_no_fault = search rules;
  has_a_request = record { bytes = _; holds = refl; whole = (_, refl) };
  has_a_request_of_no_words = record { bytes = _; holds = refl; whole = (_, refl) };
  has_no_part_of_one = λ next. not-whole _ _ next refl refl;
  has_none_once_failed = λ next. let holds = next.holds in cc;
  skips_two_words = record { bytes = _; found = _; holds = refl; read = refl; left = refl };
  skips_no_words = record { bytes = _; found = _; holds = refl; read = refl; left = refl };
  skips_no_word_less = λ skips. let left = skip-left _ _ _ _ skips refl refl in cc;
  two_words_at_the_front = refl;
  no_words_at_the_front = refl;
  is_ready = (refl, refl);
  is_not_ready = (refl, refl);
  is_wrong = (refl, refl);
  stays_wrong = (refl, refl);
  waits_for_no_whole_request = λ ready. let is = ready.0 in cc;
}
