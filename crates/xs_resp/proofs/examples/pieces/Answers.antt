use Rattle.std.specs.Prelude.{codes, [], ◌∷◌, Ok, Err}
use Rattle.std.proofs.Common.{refl}
use Rattle.xs_resp.specs.Header.{header, line_at}
use Rattle.xs_resp.specs.HeaderPart.{number_in, is_natural}
use Rattle.xs_resp.specs.Reading.{bulk_string, words, request}
use Rattle.xs_resp.proofs.examples.pieces.Goals as goal

pub returns : goal.returns
unfolding header line_at number_in is_natural bulk_string words request
returns c =
    record {
      two_and_a_part = (14, (refl, (4, (refl, refl))));
      none_of_a_part = refl;
      until_a_fault = (4, (refl, refl));
      no_request_waits = λ h. h;
      in_pieces =
          record {
            first = [];
            others = _;
            between = Ok (codes "*");
            all = refl;
            reads = refl;
            further =
                record {
                  first = [] ∷ [];
                  others = _;
                  between = Ok (codes "*0");
                  all = refl;
                  reads = (4, (refl, refl));
                  further =
                      record {
                        first = [] ∷ [];
                        others = [];
                        between = Ok [];
                        all = refl;
                        reads = (4, (refl, refl));
                        further = (refl, refl);
                      };
                };
          };
      of_a_failed_reader =
          record { first = []; others = []; between = Err _; all = refl; reads = (refl, refl); further = (refl, refl) };
    }
