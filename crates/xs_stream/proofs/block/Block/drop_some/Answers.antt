use Rattle.std.proofs.Common.{◌≡◌, ℕ, List, ◌<◌, ◌≤◌, ◌∙◌, ◌-◌, ap, arith, length, drop}
use Rattle.std.proofs.lemmas.List.{length-drop}
use Rattle.xs_stream.specs.BlockState.{BlockState}
use Rattle.xs_stream.specs.Packed.{after_entries}
use Rattle.xs_stream.proofs.PackedBlocks.{length-after_entries, dropped-code, dropped-begins, length-dropped}
use Rattle.xs_stream.proofs.PackedBlocks.{length-block_entries, repacked, repacked-packed}
use Rattle.xs_stream.proofs.block.Block.drop_some.Goals as goal

pub overflow_sub-self : goal.overflow_sub-self
overflow_sub-self c =
    omega (arith, ap length c.after_entries-left.ensures, length-after_entries c.args.count c.after.result.now, ap length c.after.ensures, length-drop c.self.inside.start c.as_slice-bytes.result.now)

left : (slice entries behind bytes : List ℕ) (start count : ℕ) → entries ≡ drop start slice → behind ≡ after_entries count entries → slice ≡ bytes
    → length slice - length behind ≡ length bytes - length (after_entries count (drop start bytes))
left slice entries behind bytes start count e f g =
    ap (λ r. length slice - length r) (f ∙ ap (after_entries count) e) ∙ ap (λ b. length b - length (after_entries count (drop start b))) g

pub overflow_sub-self-2 : goal.overflow_sub-self-2
overflow_sub-self-2 c =
    let inside = c.self.inside in
    omega (arith, rw (← c.self.view_is) at c.requires, length-block_entries inside.base inside.count inside.start inside.bytes.items)

pub invariant_of-self : goal.invariant_of-self
invariant_of-self c =
    let inside = c.self.inside in
    let bytes = inside.bytes.items in
    let fewer : c.args.count < inside.count = omega (arith, rw (← c.self.view_is) at c.requires, length-block_entries inside.base inside.count inside.start inside.bytes.items) in
    let some : 0 < inside.count = omega (arith, fewer) in
    let within : c.args.count ≤ inside.count = omega (arith, fewer) in
    let code = dropped-code inside.base inside.count inside.start bytes c.self.invariant some c.args.count within in
    let begins = left _ _ _ bytes inside.start c.args.count c.after.ensures c.after_entries-left.ensures c.as_slice-bytes.ensures.value
    ∙ dropped-begins inside.base inside.count inside.start bytes c.self.invariant some c.args.count within in
    let count = length-dropped inside.base inside.count inside.start bytes c.self.invariant some c.args.count in
    repacked-packed inside.base _ _ _ _ _ _ c.self.invariant.base_fits code begins count

pub tidy-requires : goal.tidy-requires
tidy-requires c =
    let inside = c.self.inside in
    let fewer : c.args.count < inside.count = omega (arith, rw (← c.self.view_is) at c.requires, length-block_entries inside.base inside.count inside.start inside.bytes.items) in
    omega (arith, fewer, length-block_entries inside.base (inside.count - c.args.count) (length c.as_slice-bytes.result.now - length c.after_entries-left.result.now) inside.bytes.items)

pub returns : goal.returns
returns c =
    let inside = c.self.inside in
    let bytes = inside.bytes.items in
    let fewer : c.args.count < inside.count = omega (arith, rw (← c.self.view_is) at c.requires, length-block_entries inside.base inside.count inside.start inside.bytes.items) in
    let some : 0 < inside.count = omega (arith, fewer) in
    let within : c.args.count ≤ inside.count = omega (arith, fewer) in
    let code = dropped-code inside.base inside.count inside.start bytes c.self.invariant some c.args.count within in
    let begins = left _ _ _ bytes inside.start c.args.count c.after.ensures c.after_entries-left.ensures c.as_slice-bytes.ensures.value
    ∙ dropped-begins inside.base inside.count inside.start bytes c.self.invariant some c.args.count within in
    let count = length-dropped inside.base inside.count inside.start bytes c.self.invariant some c.args.count in
    c.tidy.ensures ∙ repacked inside.base _ _ _ _ _ _ c.self.invariant.base_fits code begins count ∙ ap (λ (b : BlockState). drop c.args.count b.entries) c.self.view_is
