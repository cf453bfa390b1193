use Rattle.std.specs.Prelude.{T}
use Rattle.std.specs.List.{IsDistinct}
use Rattle.std.proofs.Common.{refl, subst, rules}
use Rattle.xs_command.proofs.examples.formed.Goals as goal

pub returns : goal.returns
unfolding IsDistinct
returns c =
    record {
      no_field = λ h. h.1 refl;
      at_zero = λ h. h.0 refl;
      nothing_deleted = λ h. h refl;
      nothing_acknowledged = λ h. h refl;
      nothing_claimed = λ h. h refl;
      no_key_dropped = λ h. h refl;
      no_stream_read = λ h. h.0 refl;
      a_stream_read_twice = λ h. subst T h.1.0.1.0 tt;
      two_streams_read = (search rules, ((refl, tt), (tt, tt)));
      a_field = (search rules, search rules);
      an_id_deleted = search rules;
      anything_else = tt;
    }
