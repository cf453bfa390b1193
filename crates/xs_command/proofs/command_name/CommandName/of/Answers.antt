use Rattle.std.proofs.Common.{◌≡◌, ◌≢◌, ℕ, Bool, true, List, length, sym, ap, ◌∙◌, arith}
use Rattle.std.specs.Prelude.{◌==◌}
use Rattle.std.proofs.lemmas.Bool.Decides.{nat_tests}
use Rattle.xs_command.specs.CommandName.{has_rare_length}
use Rattle.xs_command.proofs.CommandNames.{name_by_length}
use Rattle.xs_command.proofs.command_name.CommandName.of.Goals as goal

-- a property of the text's length is one of the word's
same_length : (text word : List ℕ) (keep : ℕ → Bool) → text ≡ word → keep (length text) ≡ true → keep (length word) ≡ true
same_length text word keep same h = sym (ap (λ w. keep (length w)) same) ∙ h

is_other : (n : ℕ) → n ≢ 4 → n ≢ 6 → n ≢ 10 → has_rare_length n ≡ true
is_other n h4 h6 h10 = grind (arith, nat_tests)

is_equal : (n k : ℕ) → n ≡ k → (n == k) ≡ true
is_equal n k h = grind (arith, nat_tests)

pub returns-then-length-eq4 : goal.returns-then-length-eq4
returns-then-length-eq4 c = c.of_four.ensures ∙ sym (name_by_length c.args.word.now (λ n. n == 4) (same_length c.as_slice-length.result.now c.args.word.now (λ n. n == 4) c.as_slice-length.ensures (is_equal _ 4 c.if-length-eq4.true)))

pub returns-then-length-eq6 : goal.returns-then-length-eq6
returns-then-length-eq6 c = c.of_six.ensures ∙ sym (name_by_length c.args.word.now (λ n. n == 6) (same_length c.as_slice-length.result.now c.args.word.now (λ n. n == 6) c.as_slice-length.ensures (is_equal _ 6 c.if-length-eq6.true)))

pub returns-then-length-eq10 : goal.returns-then-length-eq10
returns-then-length-eq10 c = c.of_ten.ensures ∙ sym (name_by_length c.args.word.now (λ n. n == 10) (same_length c.as_slice-length.result.now c.args.word.now (λ n. n == 10) c.as_slice-length.ensures (is_equal _ 10 c.if-length-eq10.true)))

pub returns : goal.returns
returns c = c.of_another_length.ensures ∙ sym (name_by_length c.args.word.now has_rare_length (same_length c.as_slice-length.result.now c.args.word.now has_rare_length c.as_slice-length.ensures (is_other _ c.if-length-eq4.false c.if-length-eq6.false c.if-length-eq10.false)))
