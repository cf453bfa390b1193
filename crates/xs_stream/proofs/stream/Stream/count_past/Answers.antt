use Rattle.std.proofs.Common.{not, refl, arith}
use Rattle.std.proofs.lemmas.List.{length-map}
use Rattle.std.proofs.lemmas.List.Filters.{length-filter_both}
use Rattle.xs_stream.specs.Id.{is_below}
use Rattle.xs_stream.specs.StreamContent.{ids_of}
use Rattle.xs_stream.specs.Blocks.{all_of}
use Rattle.xs_stream.proofs.stream.Stream.count_past.Goals as goal

-- they are some of all entries
pub returns-clause-small : goal.returns-clause-small
returns-clause-small c =
    let all = all_of c.self.inside.entries in
    let some = length-filter_both (λ x. is_below c.args.cursor x) (λ x. not (is_below c.args.cursor x)) (λ x. refl) (ids_of all) in
    omega (arith, c.count_past.ensures, some, length-map all (λ e. e.0), c.self.invariant.laid_down.counted, c.self.invariant.laid_down.small)
