use Rattle.std.proofs.Common.{refl}
use Rattle.xs_bytes.proofs.examples.numbers.Goals as goal

pub returns : goal.returns
returns c = record {
  the_first_digit = refl;
  the_last_digit = refl;
  below_the_digits = refl;
  above_the_digits = refl;
  one_digit_more = refl;
  three_digits = refl;
  leading_zeros_are_worth_nothing = refl;
  digits = refl;
  no_digits = refl;
  a_letter_at_the_end = refl;
  a_letter_first = refl;
  a_number = refl;
  with_leading_zeros = refl;
  the_greatest = refl;
  past_the_greatest = refl;
  no_number = refl;
  zero_leads = refl;
  two_zeros_lead = refl;
  zero_alone_doesnt = refl;
  zero_inside_doesnt = refl;
  nothing_leads = refl;
  as_printed = refl;
  zero_as_printed = refl;
  not_as_printed = refl;
  no_text = refl;
  the_greatest_as_printed = refl;
  past_the_greatest_as_printed = refl;
}
