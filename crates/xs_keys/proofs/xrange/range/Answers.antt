use Rattle.std.proofs.Common.{◌≡◌, ℕ, Bool, true, false, List, [], Option, Some, None, ap, ◌∙◌, refl}
use Rattle.std.proofs.Math.Seq.{take-nil}
use Rattle.xs_stream.specs.declared.range.Range.{Range}
use Rattle.xs_resp.specs.Token.{Token}
use Rattle.xs_resp.specs.Items.{Items}
use Rattle.xs_resp.proofs.Wholeness.{filled}
use Rattle.xs_keys.specs.Terms.{up_to_limit, ids_within, Array}
use Rattle.xs_keys.proofs.xrange.range.Goals as goal

-- a missing key has no entries to show
none : (limit : Option ℕ) (range : Range) (reversed : Bool) → up_to_limit limit (ids_within range reversed []) ≡ []
none None range true = refl
none None range false = refl
none (Some n) range true = take-nil n
none (Some n) range false = take-nil n

none_with : List Token → Items
none_with tokens = record { count = 0; tokens = tokens }

pub new-requires-in_default : goal.new-requires-in_default
new-requires-in_default c = filled [] 0 [] c.new.result tt refl refl c.new.ensures

pub returns-in_default : goal.returns-in_default
unfolding none_with
returns-in_default c = λ now.
    let command = c.args.command.now in
    record {
      answer_is = rw (← c.in_default.ensures, none command.limit command.range command.reversed) (ap Array (c.new-in_default.ensures ∙ ap none_with c.new.ensures));
      content_is = refl;
    }
