use Rattle.std.proofs.Common.{◌≡◌, ◌≢◌, ◌⊎◌, inl, inr, ℕ, suc, ◌<◌, ◌≤◌, Some, None, refl, sym, ap, subst, arith}
use Rattle.std.proofs.lemmas.Bool.{cases_eq, cases_lt}
use Rattle.std.proofs.lemmas.Bool.Decides.{nat_tests}
use Rattle.std.specs.Option.{option_map_or}
use Rattle.xs_replay.specs.After.{ServerState}
use Rattle.xs_replay.specs.Folder.{StandsFor, HasServed, put}
use Rattle.xs_replay.specs.ExamplesFolder.{served, after_two, no_snapshot, two_logs, the_last_log, folder}
use Rattle.xs_replay.proofs.Computing.{example_functions}
use Rattle.xs_replay.proofs.examples.standing.Goals as goal

-- two logs follow two others
two : (n : ℕ) → 2 < n → n ≤ 4 → two_logs n ≡ Some (served n)
two n low high = by (cases_eq n 3)
  where
    by : (n ≡ 3) ⊎ (n ≢ 3) → two_logs n ≡ Some (served n)
    by (inl three) = subst (λ k. two_logs k ≡ Some (served k)) (sym three) refl
    by (inr other) = let four : n ≡ 4 = omega (arith, low, high, other) in subst (λ k. two_logs k ≡ Some (served k)) (sym four) refl

-- there is no greater snapshot than the third
no_more : (n : ℕ) → 3 < n → put 3 (Some after_two) no_snapshot n ≡ None
no_more n low = grind (arith, nat_tests)

abbrev moment_of : ServerState → ℕ
moment_of state = option_map_or (λ moment. moment) state.moment 0

-- with only the third snapshot the third log is missing
third_missing : (is : HasServed (folder (put 3 (Some after_two) no_snapshot) the_last_log) served 4) → (is.below ≡ 3) ⊎ (is.below ≢ 3) → ⊥
third_missing is (inl e) =
    let stands = subst (λ b. StandsFor served b (put 3 (Some after_two) no_snapshot (suc b))) e is.greatest in
    omega (arith, stands)
third_missing is (inr other) = elim (cases_lt is.below 2) [
  | inl less ↦ (let never = is.none_above 3 (omega (arith, less)) in cc)
  | inr more ↦ (let never = is.logs_are 3 (omega (arith, is.within, other)) (omega arith) in cc)
]

pub returns : goal.returns
unfolding example_functions
returns c = record {
  the_first_log_needs_no_snapshot = refl;
  the_second_needs_one = λ e. omega (arith, e);
  a_snapshot = refl;
  not_named_one_log_too_low = λ e. let moments : 8 ≡ 5 = ap moment_of e in omega (arith, moments);
  not_named_one_log_too_high = λ e. let moments : 5 ≡ 8 = ap moment_of e in omega (arith, moments);
  not_without_its_moment = λ e. let moments : 0 ≡ 8 = ap moment_of e in omega (arith, moments);
  all_logs_are_served = record {
    below = 0;
    within = omega arith;
    greatest = refl;
    none_above = λ n high. refl;
    logs_are = λ n low high. refl;
  };
  those_from_the_snapshot_on = record {
    below = 2;
    within = omega arith;
    greatest = refl;
    none_above = no_more;
    logs_are = two;
  };
  not_if_a_log_is_missing = λ is. let never = HasServed.logs_are is 1 (omega (arith, HasServed.greatest is)) (omega arith) in cc;
  not_if_the_snapshot_s_log_is_missing = λ is. third_missing is (cases_eq (HasServed.below is) 3);
}
