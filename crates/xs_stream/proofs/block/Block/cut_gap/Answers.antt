use Rattle.std.proofs.Common.{◌≡◌, ℕ, List, ◌<◌, ◌++◌, ◌∙◌, ◌-◌, [], ap, arith, length, sym}
use Rattle.std.specs.List.{remove_range}
use Rattle.xs_stream.specs.BlockState.{BlockState}
use Rattle.xs_stream.specs.PackedText.{text_code, first_text, after_text}
use Rattle.xs_stream.specs.Packed.{block_entries, entries_code}
use Rattle.xs_stream.proofs.PackedBlocks.{named-up_to, tidied-code, tidied-begins, length-block_entries, repacked}
use Rattle.xs_stream.proofs.PackedBlocks.{repacked-packed}
use Rattle.xs_stream.proofs.block.Block.cut_gap.Goals as goal

end-at : (end : ℕ) (slice bytes : List ℕ) → end ≡ length slice - length (after_text slice) → slice ≡ bytes → end ≡ length bytes - length (after_text bytes)
end-at end slice bytes e f = e ∙ ap (λ b. length b - length (after_text b)) f

pub overflow_sub-self-inside : goal.overflow_sub-self-inside
overflow_sub-self-inside c =
    let inside = c.self.inside in
    let all = length-block_entries inside.base inside.count inside.start inside.bytes.items in
    let some : 0 < inside.count = omega (arith, rw (← c.self.view_is) at c.requires, all) in
    omega (arith, end-at _ _ _ c.names_end-end.ensures c.as_slice.ensures.value, named-up_to inside.base inside.count inside.start inside.bytes.items c.self.invariant some)

code : (c : goal.After-self-1) → c.cut.new.bytes.items
    ≡ (text_code (first_text c.self.inside.bytes.items) ++ []) ++ entries_code c.self.inside.base (first_text c.self.inside.bytes.items) (block_entries c.self.inside.base c.self.inside.count c.self.inside.start c.self.inside.bytes.items)
code c =
    let inside = c.self.inside in
    let all = length-block_entries inside.base inside.count inside.start inside.bytes.items in
    let some : 0 < inside.count = omega (arith, rw (← c.self.view_is) at c.requires, all) in
    c.cut.ensures ∙ ap (λ n. remove_range inside.bytes.items n inside.start) (end-at _ _ _ c.names_end-end.ensures c.as_slice.ensures.value)
    ∙ tidied-code inside.base inside.count inside.start inside.bytes.items c.self.invariant some

begins : (c : goal.After-self-1) → c.names_end-end.result ≡ length (text_code (first_text c.self.inside.bytes.items) ++ [])
begins c =
    let inside = c.self.inside in
    let all = length-block_entries inside.base inside.count inside.start inside.bytes.items in
    let some : 0 < inside.count = omega (arith, rw (← c.self.view_is) at c.requires, all) in
    end-at _ _ _ c.names_end-end.ensures c.as_slice.ensures.value ∙ tidied-begins inside.base inside.count inside.start inside.bytes.items c.self.invariant some

pub invariant_of-self : goal.invariant_of-self
invariant_of-self c =
    let inside = c.self.inside in
    repacked-packed inside.base _ _ _ _ _ _ c.self.invariant.base_fits (code c) (begins c) (sym (length-block_entries inside.base inside.count inside.start inside.bytes.items))

pub returns-then-self-end : goal.returns-then-self-end
returns-then-self-end c =
    let inside = c.self.inside in
    repacked inside.base _ _ _ _ _ _ c.self.invariant.base_fits (code c) (begins c) (sym (length-block_entries inside.base inside.count inside.start inside.bytes.items)) ∙ ap (λ (b : BlockState). b.entries) c.self.view_is
