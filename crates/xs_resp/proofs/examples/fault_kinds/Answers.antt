use Rattle.std.specs.Prelude.{◌≢◌, ℕ, T, ◌==◌, codes, []}
use Rattle.std.specs.Fmt.{digits}
use Rattle.std.proofs.Common.{refl, subst, arith, inl, inr}
use Rattle.xs_resp.specs.declared.read_fault.ProtocolFault.TheVariants.{Shape}
use Rattle.xs_resp.specs.declared.header.Part.TheVariants.{Count}
use Rattle.xs_resp.specs.HeaderPart.{number_in, is_natural}
use Rattle.xs_resp.specs.Grammar.{Spells, FaultIn, HasNoCr, BeginsLine, LacksMarker}
use Rattle.xs_resp.specs.Examples.{wire}
use Rattle.xs_resp.proofs.examples.fault_kinds.Goals as goal

-- a byte that isn't CR
abbrev IsOther : ℕ → Type 0
IsOther byte = byte ≢ 13

zero : IsOther 48
zero e = subst (λ n. T (n == 48)) e tt

one : IsOther 49
one e = subst (λ n. T (n == 49)) e tt

two : IsOther 50
two e = subst (λ n. T (n == 50)) e tt

four : IsOther 52
four e = subst (λ n. T (n == 52)) e tt

five : IsOther 53
five e = subst (λ n. T (n == 53)) e tt

seven : IsOther 55
seven e = subst (λ n. T (n == 55)) e tt

eight : IsOther 56
eight e = subst (λ n. T (n == 56)) e tt

x : IsOther 120
x e = subst (λ n. T (n == 120)) e tt

thirty : HasNoCr (codes "111111111111111111111111111111")
thirty = (
  one,
  (
    one,
    (
      one,
      (
        one,
        (
          one,
          (
            one,
            (
              one,
              (
                one,
                (
                  one,
                  (
                    one,
                    (
                      one,
                      (
                        one,
                        (
                          one,
                          (
                            one,
                            (
                              one,
                              (
                                one,
                                (
                                  one,
                                  (
                                    one,
                                    (
                                      one,
                                      (
                                        one,
                                        (one, (one, (one, (one, (one, (one, (one, (one, (one, (one, tt)))))))))),
                                      ),
                                    ),
                                  ),
                                ),
                              ),
                            ),
                          ),
                        ),
                      ),
                    ),
                  ),
                ),
              ),
            ),
          ),
        ),
      ),
    ),
  ),
)

number : BeginsLine Count (wire (codes "*1048577^")) (codes "1048577") 10
number =
    record {
      rest = [];
      whole = refl;
      short = omega arith;
      no_cr = (one, (zero, (four, (eight, (five, (seven, (seven, tt)))))));
    }

no_words : Spells (wire (codes "*0^")) []
unfolding digits
no_words = record { number = omega arith; sizes = tt; spelled = inl refl }

no_marker : LacksMarker Count (codes "x")
no_marker = record { byte = 120; rest = []; whole = refl; other = λ e. subst (λ n. T (n == 120)) e tt }

x_stands : FaultIn (codes "x") Shape
x_stands = inl (inl no_marker)

pub returns : goal.returns
unfolding digits number_in is_natural
returns c =
    record {
      no_cr = (one, (two, tt));
      a_cr = λ h. h.1.0 refl;
      another_byte = x;
      another_byte_behind_cr = inr (λ e. subst (λ n. T (n == 120)) e tt);
      no_byte_yet = λ h. h;
      cr_alone = λ h. h refl;
      a_line_end = λ h. elim h [ inl e ↦ e refl | inr e ↦ e refl ];
      no_marker =
          inl (inl (record { byte = 80; rest = codes "ING"; whole = refl; other = λ e. subst (λ n. T (n == 80)) e tt }));
      no_lf =
          inl (inr (record {
            text = codes "1";
            byte = 120;
            begins = record { rest = []; whole = refl; short = omega arith; no_cr = (one, tt) };
            other = λ e. subst (λ n. T (n == 120)) e tt;
          }));
      no_number =
          inl (record {
            text = codes "x";
            begins = record { rest = []; whole = refl; short = omega arith; no_cr = (x, tt) };
            none = refl;
          });
      too_great_a_number =
          inl (inr (record { text = codes "1048577"; number = 1048577; begins = number; is = refl; great = omega arith }));
      too_long_a_header =
          inl (inl (record {
            text = codes "111111111111111111111111111111";
            rest = [];
            whole = refl;
            long = refl;
            no_cr = thirty;
          }));
      no_line_end_behind_a_word =
          inr (refl, record { text = codes "PING"; rest = codes "x"; whole = refl; size = omega arith; missing = x });
      a_request_first = λ h. h.0 (wire (codes "*0^")) (codes "x") [] refl no_words;
      a_fault_first = λ h. h.1 Shape x_stands;
    }
