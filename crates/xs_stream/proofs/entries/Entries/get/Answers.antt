use Rattle.std.proofs.Common.{not, sym, ap, ◌∙◌}
use Rattle.std.specs.Option.{option_map, unwrap_or}
use Rattle.std.specs.declared.ops.Bound.TheVariants.{Included, Unbounded}
use Rattle.xs_stream.specs.Id.{is_below}
use Rattle.xs_stream.specs.StreamContent.{fields_at}
use Rattle.xs_stream.specs.Blocks.{contents}
use Rattle.xs_stream.proofs.Contents.{contents-between}
use Rattle.xs_stream.proofs.FiledBlocks.{fields-block, lookup-entry, first-from, none-from}
use Rattle.xs_stream.proofs.entries.Entries.get.Goals as goal

pub returns-in-Some : goal.returns-in-Some
returns-in-Some c =
    let all = c.args.self.now in
    let older = contents all.older.entries in
    let newest = all.newest.entries in
    let first = first-from c.args.id older _ _ (contents-between (Included c.args.id) Unbounded all.older.entries ∙ ap contents (sym (c.range-from.ensures.between tt) ∙ c.in-Some.ensures.steps)) in
    let block = lookup-entry (λ under. not (is_below under c.args.id)) older ∙ ap (option_map (λ b. b.1)) first in
    c.get.ensures ∙ sym (fields-block c.args.id older newest c.requires.filed ∙ ap (λ found. fields_at (unwrap_or found newest) c.args.id) block)

pub returns-in-None : goal.returns-in-None
returns-in-None c =
    let all = c.args.self.now in
    let older = contents all.older.entries in
    let newest = all.newest.entries in
    let none = none-from c.args.id older (contents-between (Included c.args.id) Unbounded all.older.entries ∙ ap contents (sym (c.range-from.ensures.between tt) ∙ c.in-None.ensures.steps.0)) in
    let block = lookup-entry (λ under. not (is_below under c.args.id)) older ∙ ap (option_map (λ b. b.1)) none in
    c.get-in-None.ensures ∙ sym (fields-block c.args.id older newest c.requires.filed ∙ ap (λ found. fields_at (unwrap_or found newest) c.args.id) block)
