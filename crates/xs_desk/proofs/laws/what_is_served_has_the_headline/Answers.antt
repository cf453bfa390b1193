use Rattle.std.specs.Prelude.{[]}
use Rattle.std.proofs.Common.{subst, sym}
use Rattle.xs_keys.specs.Content.{IsContent}
use Rattle.xs_keys.proofs.Contents.{content-none}
use Rattle.xs_desk.proofs.laws.what_is_served_has_the_headline.Goals as goal

pub returns : goal.returns
returns c = λ desk calls is nothing.
    let run = is.runs [] (subst (λ content. IsContent content []) (sym nothing) content-none) in
    (run.0, run.1, run.1.formed tt, λ later e earlier among. (run.1.lives_are_apart later e earlier among, run.1.moves later e earlier among))
