use Rattle.std.proofs.Common.{sym, ap, ◌∙◌}
use Rattle.std.specs.Option.{option_map}
use Rattle.std.specs.declared.ops.Bound.TheVariants.{Excluded, Unbounded}
use Rattle.xs_stream.specs.Id.{is_below}
use Rattle.xs_stream.specs.Blocks.{contents}
use Rattle.xs_stream.proofs.Contents.{contents-between}
use Rattle.xs_stream.proofs.FiledBlocks.{first-after, none-after, key-entry}
use Rattle.xs_stream.proofs.entries.Entries.block_after.Goals as goal

pub returns-in-Some : goal.returns-in-Some
returns-in-Some c =
    let raw = c.args.self.now.older.entries in
    let older = contents raw in
    sym (key-entry (λ other. is_below c.args.under other) older ∙ ap (option_map (λ b. b.0)) (first-after c.args.under older _ _ (contents-between (Excluded c.args.under) Unbounded raw ∙ ap contents (sym (c.range-from.ensures.between tt) ∙ c.in-Some.ensures.steps))))

pub returns-in-None : goal.returns-in-None
returns-in-None c =
    let raw = c.args.self.now.older.entries in
    let older = contents raw in
    sym (key-entry (λ other. is_below c.args.under other) older ∙ ap (option_map (λ b. b.0)) (none-after c.args.under older (contents-between (Excluded c.args.under) Unbounded raw ∙ ap contents (sym (c.range-from.ensures.between tt) ∙ c.in-None.ensures.steps.0))))
