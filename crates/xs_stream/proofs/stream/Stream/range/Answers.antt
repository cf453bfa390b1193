use Rattle.std.proofs.Common.{◌≡◌, List, ap, ◌∙◌, subst, IfOk}
use Rattle.xs_stream.specs.declared.id.Id.{Id}
use Rattle.xs_stream.specs.StreamContent.{ids_of}
use Rattle.xs_stream.proofs.Lending.{ids-within}
use Rattle.xs_stream.proofs.stream.Stream.range.Goals as goal

pub returns : goal.returns
returns c =
    let ids = ap ids_of (c.as_slice.ensures ∙ c.in_ok-entries.ensures.entries) ∙ ids-within c.args.range c.args.reversed c.args.limit c.args.self.now.entries in
    subst (λ (found : List Id). IfOk c.ids_of.result (λ ids. ids ≡ found)) ids c.ids_of.ensures
