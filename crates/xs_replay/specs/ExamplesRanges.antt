-- Which events have their numbers in range, by examples. (The bounds are those of the program's numbers of 64 bits and
-- of 63.)
use Rattle.std.specs.Prelude.{ℕ, false, Some, None, [], codes}
use Rattle.xs_stream.specs.declared.add.AddId.TheVariants.{Auto, AutoSeq, Exact}
use Rattle.xs_stream.specs.declared.trim.Trim.TheVariants.{MaxLen}
use Rattle.xs_stream.specs.Examples.{at}
use Rattle.xs_stream.specs.Id.{greatest_id}
use Rattle.xs_group.specs.declared.claims.ClaimTime.TheVariants as time
use Rattle.xs_command.specs.declared.command.Command.{Command}
use Rattle.xs_command.specs.declared.command.Command.TheVariants as command
use Rattle.xs_command.specs.declared.command.GroupStart.TheVariants.{Top, At}
use Rattle.xs_command.specs.ExamplesStreams.{adds}
use Rattle.xs_command.specs.ExamplesGroups.{creates, claims}
use Rattle.xs_replay.specs.Ranges.{EventFits}

-- XCLAIM with RETRYCOUNT
abbrev pub claims_counted : ℕ → Command
claims_counted count = claims 0 time.Now (Some count) false []

-- a scan that sets a count, which no words can spell
abbrev pub scans_counted : ℕ → Command
scans_counted count =
    command.AutoClaim (record {
      key = codes "k";
      group = codes "g";
      consumer = codes "c";
      rule = record { min_idle = 0; when = time.Now; retry = Some count; just_id = false };
      start = at 0 0;
      limit = 1;
    })

pub record Events : Type 0 where
  pub the_greatest_moment : EventFits (9223372036854775807, adds None Auto)
  pub no_greater_moment : EventFits (9223372036854775808, adds None Auto) → ⊥
  pub the_greatest_id : EventFits (5, adds None (Exact greatest_id))
  pub no_greater_sequence : EventFits (5, adds None (Exact (at 0 18446744073709551616))) → ⊥
  pub the_greatest_milliseconds : EventFits (5, adds None (AutoSeq 18446744073709551615))
  pub no_greater_milliseconds : EventFits (5, adds None (AutoSeq 18446744073709551616)) → ⊥
  pub a_trim_is_only_compared : EventFits (5, adds (Some (MaxLen 18446744073709551616)) Auto)
  pub a_group_at_the_top : EventFits (5, creates Top false)
  pub a_group_at_the_greatest_id : EventFits (5, creates (At greatest_id) false)
  pub no_group_at_a_greater_one : EventFits (5, creates (At (at 18446744073709551616 0)) false) → ⊥
  pub the_greatest_count : EventFits (5, claims_counted 9223372036854775807)
  pub no_greater_count : EventFits (5, claims_counted 9223372036854775808) → ⊥
  pub no_count : EventFits (5, claims 0 time.Now None false [])
  pub the_greatest_count_of_a_scan : EventFits (5, scans_counted 9223372036854775807)
  pub no_greater_count_of_a_scan : EventFits (5, scans_counted 9223372036854775808) → ⊥
  pub any_other_command : EventFits (5, command.Quit)
