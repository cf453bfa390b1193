use Rattle.std.proofs.Common.{◌≡◌, ◌<◌, ◌++◌, ◌∙◌, ap, arith, drop, sym, refl}
use Rattle.xs_stream.specs.PackedText.{text_code, first_text}
use Rattle.xs_stream.specs.Packed.{block_entries, entries_code}
use Rattle.xs_stream.proofs.PackedBlocks.{gap, begins, taken-code, length-taken, length-block_entries, repacked}
use Rattle.xs_stream.proofs.PackedBlocks.{repacked-packed}
use Rattle.xs_stream.proofs.block.Block.take_in.Goals as goal

pub overflow_add-self : goal.overflow_add-self
overflow_add-self c =
    let inside = c.self.inside in
    let other = c.other.inside in
    let room = rw (← c.self.view_is, ← c.other.view_is) at (c.if-not-has_room_for.ensures refl) in
    omega (arith, room, length-block_entries inside.base inside.count inside.start inside.bytes.items, length-block_entries other.base other.count other.start other.bytes.items)

some : (c : goal.After-self-1) → 0 < c.self.inside.count
some c =
    let inside = c.self.inside in
    omega (arith, rw (← c.self.view_is) at c.requires, length-block_entries inside.base inside.count inside.start inside.bytes.items)

code : (c : goal.After-self-1) → c.push_rebased.new.out.items
    ≡ (text_code (first_text c.self.inside.bytes.items) ++ gap c.self.inside.base c.self.inside.count c.self.inside.start c.self.inside.bytes.items c.self.invariant (some c))
    ++ entries_code c.self.inside.base (first_text c.self.inside.bytes.items) (block_entries c.self.inside.base c.self.inside.count c.self.inside.start c.self.inside.bytes.items
    ++ block_entries c.other.inside.base c.other.inside.count c.other.inside.start c.other.inside.bytes.items)
code c =
    let inside = c.self.inside in
    let other = c.other.inside in
    let same : first_text other.bytes.items ≡ first_text inside.bytes.items =
    sym (ap first_text c.as_slice-2.ensures.value) ∙ c.if-not-has_same_names.ensures refl ∙ ap first_text c.as_slice.ensures.value in
    let rest : c.after-bytes.result.now ≡ drop other.start other.bytes.items = c.after-bytes.ensures ∙ ap (drop other.start) c.as_slice-3.ensures.value in
    taken-code inside.base inside.count inside.start inside.bytes.items c.self.invariant (some c) other.base other.count other.start other.bytes.items c.other.invariant same _ c.after-bytes.result.now rest c.in-Ok.ensures.ok

pub invariant_of-self : goal.invariant_of-self
invariant_of-self c =
    let inside = c.self.inside in
    let other = c.other.inside in
    let count = length-taken inside.base inside.count inside.start inside.bytes.items c.self.invariant (some c) other.base other.count other.start other.bytes.items in
    repacked-packed inside.base _ _ _ _ _ _ c.self.invariant.base_fits (code c) (begins inside.base inside.count inside.start inside.bytes.items c.self.invariant (some c)) count

pub returns-in-Ok : goal.returns-in-Ok
returns-in-Ok c =
    let inside = c.self.inside in
    let other = c.other.inside in
    let count = length-taken inside.base inside.count inside.start inside.bytes.items c.self.invariant (some c) other.base other.count other.start other.bytes.items in
    rw (← c.self.view_is, ← c.other.view_is) (repacked inside.base _ _ _ _ _ _ c.self.invariant.base_fits (code c) (begins inside.base inside.count inside.start inside.bytes.items c.self.invariant (some c)) count)
