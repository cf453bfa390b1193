use Rattle.std.proofs.Common.{◌≡◌, ◌<◌, ◌++◌, ◌∙◌, false, [], ap, arith, drop, sym}
use Rattle.xs_stream.specs.BlockState.{BlockState}
use Rattle.xs_stream.specs.PackedText.{text_code}
use Rattle.xs_stream.specs.Packed.{block_entries, entries_code, shares_names}
use Rattle.xs_stream.proofs.PackedBlocks.{fronted-code, fronted-begins, length-block_entries, repacked, repacked-packed}
use Rattle.xs_stream.proofs.block.Block.tidy.Goals as goal

code : (c : goal.After-self-1) → c.drop_front.new.bytes.items
    ≡ (text_code [] ++ []) ++ entries_code c.self.inside.base [] (block_entries c.self.inside.base c.self.inside.count c.self.inside.start c.self.inside.bytes.items)
code c =
    let inside = c.self.inside in
    let some : 0 < inside.count = omega (arith, rw (← c.self.view_is) at c.requires, length-block_entries inside.base inside.count inside.start inside.bytes.items) in
    let none : shares_names inside.count (drop inside.start inside.bytes.items) ≡ false =
    ap (λ b. shares_names inside.count (drop inside.start b)) (sym c.as_slice-bytes.ensures.value) ∙ sym c.shares_names.ensures ∙ c.if-shares_names.false in
    fronted-code inside.base inside.count inside.start inside.bytes.items c.self.invariant some c.drop_front.new.bytes.items none c.drop_front.ensures

pub invariant_of-self : goal.invariant_of-self
invariant_of-self c =
    let inside = c.self.inside in
    repacked-packed inside.base _ _ _ _ _ _ c.self.invariant.base_fits (code c) fronted-begins (sym (length-block_entries inside.base inside.count inside.start inside.bytes.items))

pub returns-else-shares_names : goal.returns-else-shares_names
returns-else-shares_names c =
    let inside = c.self.inside in
    repacked inside.base _ _ _ _ _ _ c.self.invariant.base_fits (code c) fronted-begins (sym (length-block_entries inside.base inside.count inside.start inside.bytes.items)) ∙ ap (λ (b : BlockState). b.entries) c.self.view_is
