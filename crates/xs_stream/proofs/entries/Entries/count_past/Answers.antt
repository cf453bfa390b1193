use Rattle.std.proofs.Common.{◌++◌, arith, length, length-append, sym, ap, refl, ◌∙◌}
use Rattle.std.specs.declared.ops.Bound.TheVariants.{Included, Excluded, Unbounded}
use Rattle.xs_stream.specs.StreamContent.{ids_of}
use Rattle.xs_stream.specs.Blocks.{contents, entries_of_blocks, all_of}
use Rattle.xs_stream.proofs.Contents.{contents-between}
use Rattle.xs_stream.proofs.Past.{past-none}
use Rattle.xs_stream.proofs.CountedPast.{counted-past, from-split, from-walk}
use Rattle.xs_stream.proofs.CountedBelow.{blocks_from, below-walk}
use Rattle.xs_stream.proofs.entries.Entries.count_past.Goals as goal
use Rattle.xs_stream.proofs.entries.Entries.count_past.Goals.{then-is_nearer_first, else-is_nearer_first}

pub returns-in_default : goal.returns-in_default
returns-in_default c = sym (ap length (past-none c.args.cursor (ids_of (all_of c.args.self.now)) (sym c.next.ensures ∙ c.in_default.is) c.requires.ids))

pub loop-below-init : goal.loop-below-init
loop-below-init c =
    let low = c.in-Some.low in
    let all = c.args.self.now in
    let older = contents all.older.entries in
    let newest = all.newest.entries in
    let later = entries_of_blocks (blocks_from low older) in
    let above = ap (λ bs. length (entries_of_blocks (contents bs))) (c.new-above.ensures.left ∙ c.range.ensures.between tt) ∙ ap (λ bs. length (entries_of_blocks bs)) (sym (contents-between (Included low) Unbounded all.older.entries)) in
    let below = ap (λ bs. length (entries_of_blocks (contents bs))) (c.new-below.ensures.left ∙ c.range-2.ensures.between tt) ∙ ap (λ bs. length (entries_of_blocks bs)) (sym (contents-between Unbounded (Excluded low) all.older.entries)) in
    let past = counted-past c.args.cursor low (all_of all) (sym c.next.ensures ∙ c.in-Some.is) c.requires.ids in
    let found = ap length (from-walk low older newest c.requires.laid_down.filed) in (
      omega (arith, c.new-above.ensures.none, above, c.count_beside-beside.ensures, past, found, from-split low (later ++ newest), length-append later newest),
      omega (arith, c.new-below.ensures.none, below, c.count_beside-beside.ensures, past, from-split low (all_of all), below-walk low older newest c.requires.laid_down.filed, c.requires.laid_down.counted),
      elim c.if-is_nearer_first.branch [
        | then-is_nearer_first w ↦ omega (arith, ap (λ p. p.0) w.up-is)
        | else-is_nearer_first w ↦ omega (arith, ap (λ p. p.0) w.up-is)
      ],
    )

pub count_next-requires : goal.count_next-requires
count_next-requires c = record { fits = omega (arith, c.loop-below.invariant.0, c.loop-below.invariant.1, c.requires.laid_down.small) }

pub count_next-requires-in-loop-below : goal.count_next-requires-in-loop-below
count_next-requires-in-loop-below c = record { fits = omega (arith, c.loop-below.invariant.0, c.loop-below.invariant.1, c.requires.laid_down.small) }

pub overflow_add-result : goal.overflow_add-result
overflow_add-result c = omega (arith, c.loop-below.invariant.1, c.count.ensures, c.if-count_next.ensures.counted, ap (λ bs. length (entries_of_blocks (contents bs))) (c.if-count_next.ensures.all refl), c.requires.laid_down.small)

pub overflow_sub-result : goal.overflow_sub-result
overflow_sub-result c = omega (arith, c.loop-below.invariant.1, c.count.ensures, c.if-count_next.ensures.counted, ap (λ bs. length (entries_of_blocks (contents bs))) (c.if-count_next.ensures.all refl))

pub returns-then-count_next : goal.returns-then-count_next
returns-then-count_next c = omega (arith, c.loop-below.invariant.1, c.count.ensures, c.if-count_next.ensures.counted, ap (λ bs. length (entries_of_blocks (contents bs))) (c.if-count_next.ensures.all refl))

pub loop-below-smaller : goal.loop-below-smaller
loop-below-smaller c = omega (arith, c.loop-below-test.ensures.most refl, c.loop-below.invariant.2)

pub loop-below-preserved : goal.loop-below-preserved
loop-below-preserved c =
    (omega (arith, c.count_next.ensures.counted, c.loop-below.invariant.0), omega (arith, c.count_next-in-loop-below.ensures.counted, c.loop-below.invariant.1), c.loop-below.invariant.2)

pub overflow_add-result-2 : goal.overflow_add-result-2
overflow_add-result-2 c = omega (arith, c.loop-below.invariant.0, c.loop-below.invariant.1, c.count-2.ensures, c.len.ensures, c.loop-below-test.ensures.counted, ap (λ bs. length (entries_of_blocks (contents bs))) (c.loop-below-test.ensures.all refl), c.requires.laid_down.small)

pub overflow_sub-result-2 : goal.overflow_sub-result-2
overflow_sub-result-2 c = omega (arith, c.loop-below.invariant.0, c.loop-below.invariant.1, c.count-2.ensures, c.len.ensures, c.loop-below-test.ensures.counted, ap (λ bs. length (entries_of_blocks (contents bs))) (c.loop-below-test.ensures.all refl))

pub returns : goal.returns
returns c = omega (arith, c.loop-below.invariant.0, c.loop-below.invariant.1, c.count-2.ensures, c.len.ensures, c.loop-below-test.ensures.counted, ap (λ bs. length (entries_of_blocks (contents bs))) (c.loop-below-test.ensures.all refl))
