use Rattle.std.proofs.Common.{List, ◌++◌, length, sym, ap, ◌∙◌, subst}
use Rattle.std.specs.declared.ops.Bound.TheVariants.{Included, Unbounded}
use Rattle.xs_stream.specs.declared.id.Id.{Id}
use Rattle.xs_stream.specs.declared.field.Field.{Field}
use Rattle.xs_stream.specs.Blocks.{contents, entries_of_blocks, AreFiled}
use Rattle.xs_stream.proofs.Contents.{contents-between}
use Rattle.xs_stream.proofs.WithinBlocks.{filed-some}
use Rattle.xs_stream.proofs.CountedBelow.{below, below-first}
use Rattle.xs_stream.proofs.entries.Entries.count_beside.Goals as goal

pub returns-in-Some : goal.returns-in-Some
returns-in-Some c =
    let low = c.args.low in
    let older = contents c.args.self.now.older.entries in
    let newest = c.args.self.now.newest.entries in
    let first : Id × List (Id × List Field) = (c.in-Some.field-0-0.now, c.in-Some.block.now.entries) in
    let met = contents-between (Included low) Unbounded c.args.self.now.older.entries ∙ sym (ap contents (c.range.ensures.between tt)) ∙ ap contents c.in-Some.ensures.steps in
    let filed = subst (λ bs. AreFiled bs newest) met (filed-some _ older newest c.requires.filed) in
    c.count_below.ensures ∙ sym (below-first low older first _ newest filed met)

pub returns-in-None : goal.returns-in-None
returns-in-None c =
    let low = c.args.low in
    let newest = c.args.self.now.newest.entries in
    let met = contents-between (Included low) Unbounded c.args.self.now.older.entries ∙ sym (ap contents (c.range.ensures.between tt)) ∙ ap contents c.in-None.ensures.steps.0 in
    c.count_below-in-None.ensures ∙ sym (ap (λ bs. length (below low (entries_of_blocks bs ++ newest))) met)
