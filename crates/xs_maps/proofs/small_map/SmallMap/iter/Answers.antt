use Rattle.std.proofs.Common.{sym, ap, ◌∙◌}
use Rattle.xs_maps.specs.Seen.{seen}
use Rattle.xs_maps.proofs.Spans.{between-all}
use Rattle.xs_maps.proofs.small_map.SmallMap.iter.Goals as goal

pub returns-in-Many-clause-rest : goal.returns-in-Many-clause-rest
returns-in-Many-clause-rest g c =
    c.new-in-Many.ensures ∙ c.range.ensures.between tt ∙ between-all g.K.Ord.cmp c.in-Many.many.entries
    ∙ ap (λ f. (seen f).entries) (sym c.in-Many.is) ∙ ap (λ m. m.entries) c.self.view_is
