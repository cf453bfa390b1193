use Rattle.std.proofs.Common.{◌≡◌, ◌<◌, ◌∙◌, ◌++◌, ◌∷◌, [], ap, arith, Bool}
use Rattle.xs_stream.specs.PackedText.{first_text, text_code}
use Rattle.xs_stream.specs.Packed.{entry_code, block_entries, entries_code, has_names}
use Rattle.xs_stream.proofs.PackedBlocks.{gap, begins, pushed-code, length-pushed, length-block_entries, repacked}
use Rattle.xs_stream.proofs.PackedBlocks.{repacked-packed}
use Rattle.xs_stream.proofs.block.Block.append.Goals as goal

pub overflow_add-self : goal.overflow_add-self
overflow_add-self c =
    let inside = c.self.inside in
    omega (arith, rw (← c.self.view_is) at c.requires.room, length-block_entries inside.base inside.count inside.start inside.bytes.items)

some : (c : goal.After-self-1) → 0 < c.self.inside.count
some c =
    let inside = c.self.inside in
    omega (arith, rw (← c.self.view_is) at c.requires.some, length-block_entries inside.base inside.count inside.start inside.bytes.items)

code : (c : goal.After-self-1) → c.push_entry.new.out.items
    ≡ (text_code (first_text c.self.inside.bytes.items) ++ gap c.self.inside.base c.self.inside.count c.self.inside.start c.self.inside.bytes.items c.self.invariant (some c))
    ++ entries_code c.self.inside.base (first_text c.self.inside.bytes.items) (block_entries c.self.inside.base c.self.inside.count c.self.inside.start c.self.inside.bytes.items ++ (c.args.id, c.args.fields.now) ∷ [])
code c =
    let inside = c.self.inside in
    let bytes = inside.bytes.items in
    let shared = c.shares-shared.ensures ∙ ap (λ b. has_names (first_text b) c.args.fields.now) c.as_slice.ensures.value in
    c.in-Ok.ensures.ok ∙ ap (λ (t : Bool). bytes ++ entry_code inside.base t (c.args.id, c.args.fields.now)) shared
    ∙ pushed-code inside.base inside.count inside.start bytes c.self.invariant (some c) (c.args.id, c.args.fields.now)

pub invariant_of-self : goal.invariant_of-self
invariant_of-self c =
    let inside = c.self.inside in
    let count = length-pushed inside.base inside.count inside.start inside.bytes.items c.self.invariant (some c) (c.args.id, c.args.fields.now) in
    repacked-packed inside.base _ _ _ _ _ _ c.self.invariant.base_fits (code c) (begins inside.base inside.count inside.start inside.bytes.items c.self.invariant (some c)) count

pub returns-in-Ok-clause-ok : goal.returns-in-Ok-clause-ok
returns-in-Ok-clause-ok c =
    let inside = c.self.inside in
    let count = length-pushed inside.base inside.count inside.start inside.bytes.items c.self.invariant (some c) (c.args.id, c.args.fields.now) in
    rw (← c.self.view_is) (repacked inside.base _ _ _ _ _ _ c.self.invariant.base_fits (code c) (begins inside.base inside.count inside.start inside.bytes.items c.self.invariant (some c)) count)
