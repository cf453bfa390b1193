use Rattle.std.proofs.Common.{◌≡◌, ℕ, List, ◌<◌, ◌≤◌, ◌++◌, ◌∙◌, ◌+◌, ◌-◌, ap, arith, length, sym, drop}
use Rattle.std.proofs.lemmas.List.{length-drop}
use Rattle.std.specs.List.{remove, remove_range}
use Rattle.xs_stream.specs.PackedText.{text_code, first_text}
use Rattle.xs_stream.specs.Packed.{block_entries, entries_code, after_entries}
use Rattle.xs_stream.proofs.PackedBlocks.{remove-absent, after_entries-one_less, length-after_entries, raised}
use Rattle.xs_stream.proofs.PackedBlocks.{next_count-code, next_count-begins, length-removed, length-block_entries}
use Rattle.xs_stream.proofs.PackedBlocks.{repacked, repacked-packed}
use Rattle.xs_stream.proofs.block.Block.remove.Goals as goal

pub returns-in_default-clause-entries : goal.returns-in_default-clause-entries
returns-in_default-clause-entries c =
    let inside = c.self.inside in
    let absent = rw (c.as_slice.ensures.value) at c.in_default.ensures.found in
    rw (← c.self.view_is) (sym (remove-absent c.args.id (block_entries inside.base inside.count inside.start inside.bytes.items) (sym absent)))

pub take_out-self-inside-requires-clause-begin : goal.take_out-self-inside-requires-clause-begin
take_out-self-inside-requires-clause-begin c =
    let start = c.self.inside.start in
    let bytes = c.as_slice.result.now in
    omega (arith, c.in-Some.ensures.from, length-after_entries c.in-Some.place.index (drop start bytes), length-drop start bytes, c.self.invariant.inside, ap length c.as_slice.ensures.value)

pub take_out-self-inside-requires-clause-forward : goal.take_out-self-inside-requires-clause-forward
take_out-self-inside-requires-clause-forward c =
    let i = c.in-Some.place.index in
    let bytes = c.as_slice.result.now in
    omega (arith, c.in-Some.ensures.from, c.in-Some.ensures.to, after_entries-one_less i (drop c.self.inside.start bytes))

some : (c : goal.After-self-2-1) → 0 < c.self.inside.count
some c = omega (arith, c.in-Some.ensures.index)

within : (c : goal.After-self-2-1) → c.take_out-self-inside.result ≤ length c.take_out-self-inside.new.bytes.items
within c = omega (arith, c.take_out-self-inside.ensures.inside)

code : (c : goal.After-self-2-1) → c.take_out-self-inside.new.bytes.items
    ≡ (text_code (first_text c.self.inside.bytes.items) ++ raised c.self.inside.base c.self.inside.count c.self.inside.start c.self.inside.bytes.items c.self.invariant (some c) c.take_out-self-inside.result c.take_out-self-inside.new.bytes.items)
    ++ entries_code c.self.inside.base (first_text c.self.inside.bytes.items) (remove (block_entries c.self.inside.base c.self.inside.count c.self.inside.start c.self.inside.bytes.items) c.in-Some.place.index)
code c =
    let inside = c.self.inside in
    let bytes = inside.bytes.items in
    let place = c.in-Some.place in
    let taken = c.take_out-self-inside in
    let where_at : ℕ → List ℕ → ℕ = λ i b. length b - length (after_entries i (drop inside.start b)) in
    let from = c.in-Some.ensures.from ∙ ap (where_at place.index) c.as_slice.ensures.value in
    let to = c.in-Some.ensures.to ∙ ap (where_at (place.index + 1)) c.as_slice.ensures.value in
    let rest = taken.ensures.rest ∙ ap (λ n. drop inside.start (remove_range bytes n place.to)) from ∙ ap (λ n. drop inside.start (remove_range bytes (where_at place.index bytes) n)) to in
    next_count-code inside.base inside.count inside.start bytes c.self.invariant (some c) taken.result taken.new.bytes.items taken.ensures.begin (within c) taken.ensures.front place.index c.in-Some.ensures.index rest

begins : (c : goal.After-self-2-1) → c.take_out-self-inside.result
    ≡ length (text_code (first_text c.self.inside.bytes.items) ++ raised c.self.inside.base c.self.inside.count c.self.inside.start c.self.inside.bytes.items c.self.invariant (some c) c.take_out-self-inside.result c.take_out-self-inside.new.bytes.items)
begins c =
    let inside = c.self.inside in
    let taken = c.take_out-self-inside in
    next_count-begins inside.base inside.count inside.start inside.bytes.items c.self.invariant (some c) taken.result taken.new.bytes.items taken.ensures.begin (within c) taken.ensures.front

pub invariant_of-self : goal.invariant_of-self
invariant_of-self c =
    let inside = c.self.inside in
    let count = length-removed inside.base inside.count inside.start inside.bytes.items c.self.invariant (some c) c.in-Some.place.index c.in-Some.ensures.index in
    repacked-packed inside.base _ _ _ _ _ _ c.self.invariant.base_fits (code c) (begins c) count

left : (c : goal.After-self-2-1) → block_entries c.self.inside.base (c.self.inside.count - 1) c.take_out-self-inside.result c.take_out-self-inside.new.bytes.items
    ≡ remove (block_entries c.self.inside.base c.self.inside.count c.self.inside.start c.self.inside.bytes.items) c.in-Some.place.index
left c =
    let inside = c.self.inside in
    let count = length-removed inside.base inside.count inside.start inside.bytes.items c.self.invariant (some c) c.in-Some.place.index c.in-Some.ensures.index in
    repacked inside.base _ _ _ _ _ _ c.self.invariant.base_fits (code c) (begins c) count

pub returns-clause-entries : goal.returns-clause-entries
returns-clause-entries c =
    let removed = rw (c.as_slice.ensures.value) at c.in-Some.ensures.removed in
    rw (← c.self.view_is) (c.compact.ensures ∙ left c.before.before ∙ sym removed)

pub returns-clause-count : goal.returns-clause-count
returns-clause-count c =
    let inside = c.self.inside in
    rw (← c.self.view_is) (omega (arith, length-block_entries inside.base inside.count inside.start inside.bytes.items, length-block_entries inside.base (inside.count - 1) c.take_out-self-inside.result c.take_out-self-inside.new.bytes.items, ap length c.compact.ensures, c.in-Some.ensures.index))
