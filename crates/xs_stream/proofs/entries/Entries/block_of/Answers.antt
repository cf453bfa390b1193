use Rattle.std.proofs.Common.{not, sym, ap, ◌∙◌}
use Rattle.std.specs.Option.{option_map}
use Rattle.std.specs.declared.ops.Bound.TheVariants.{Included, Unbounded}
use Rattle.xs_stream.specs.Id.{is_below}
use Rattle.xs_stream.specs.Blocks.{contents}
use Rattle.xs_stream.proofs.Contents.{contents-between}
use Rattle.xs_stream.proofs.FiledBlocks.{first-from, none-from, key-entry}
use Rattle.xs_stream.proofs.entries.Entries.block_of.Goals as goal

pub returns-in-Some : goal.returns-in-Some
returns-in-Some c =
    let raw = c.args.self.now.older.entries in
    let older = contents raw in
    sym (key-entry (λ under. not (is_below under c.args.id)) older ∙ ap (option_map (λ b. b.0)) (first-from c.args.id older _ _ (contents-between (Included c.args.id) Unbounded raw ∙ ap contents (sym (c.range-from.ensures.between tt) ∙ c.in-Some.ensures.steps))))

pub returns-in-None : goal.returns-in-None
returns-in-None c =
    let raw = c.args.self.now.older.entries in
    let older = contents raw in
    sym (key-entry (λ under. not (is_below under c.args.id)) older ∙ ap (option_map (λ b. b.0)) (none-from c.args.id older (contents-between (Included c.args.id) Unbounded raw ∙ ap contents (sym (c.range-from.ensures.between tt) ∙ c.in-None.ensures.steps.0))))
