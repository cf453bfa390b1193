use Rattle.std.proofs.Common.{inr}
use Rattle.std.proofs.lemmas.Option.{IfSome_then}
use Rattle.std.specs.Duration.{as_nanos}
use Rattle.xs_clock.proofs.wall_clock.LastReading.next.Goals as goal

pub returns : goal.returns
returns g c =
    IfSome_then c.after.result c.after.ensures
    (λ _ is. inr (as_nanos c.unwrap_or-wall.result, as_nanos c.in_ok-since.since, is))
