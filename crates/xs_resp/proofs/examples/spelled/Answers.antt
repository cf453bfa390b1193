use Rattle.std.specs.Prelude.{codes, [], ◌∷◌}
use Rattle.std.specs.Fmt.{digits}
use Rattle.std.proofs.Common.{refl, arith, inl, inr}
use Rattle.xs_resp.specs.Grammar.{Spells}
use Rattle.xs_resp.specs.Examples.{wire}
use Rattle.xs_resp.proofs.examples.spelled.Goals as goal

one_word : Spells (wire (codes "*1^$4^PING^")) (codes "PING" ∷ [])
unfolding digits
one_word = record { number = omega arith; sizes = (omega arith, tt); spelled = inl refl }

no_words : Spells (wire (codes "*0^")) []
unfolding digits
no_words = record { number = omega arith; sizes = tt; spelled = inl refl }

null : Spells (wire (codes "*-1^")) []
null = record { number = omega arith; sizes = tt; spelled = inr (refl, refl) }

pub returns : goal.returns
returns c =
    record {
      one_word = one_word;
      no_words = no_words;
      null = null;
      three_requests = (_, _, refl, one_word, (_, _, refl, null, (_, _, refl, no_words, refl)));
    }
