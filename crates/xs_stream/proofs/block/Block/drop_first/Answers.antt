use Rattle.std.proofs.Common.{◌∙◌, sym, arith}
use Rattle.std.proofs.lemmas.List.{drop_all}
use Rattle.xs_stream.proofs.PackedBlocks.{length-block_entries}
use Rattle.xs_stream.proofs.block.Block.drop_first.Goals as goal

pub drop_some-requires : goal.drop_some-requires
drop_some-requires c =
    let inside = c.self.inside in
    rw (← c.self.view_is) (omega (arith, length-block_entries inside.base inside.count inside.start inside.bytes.items, c.if-count-self.false))

pub returns-then-count-self : goal.returns-then-count-self
returns-then-count-self c =
    let inside = c.self.inside in
    c.seal.ensures ∙ (c.clear.ensures ∙ rw (← c.self.view_is) (sym (drop_all c.args.count _ (omega (arith, length-block_entries inside.base inside.count inside.start inside.bytes.items, c.if-count-self.true)))))
