use Rattle.std.proofs.Common.{◌≡◌, ◌++◌, ◌∷◌, [], true, not, sym, ap, ◌∙◌, subst, arith, length}
use Rattle.xs_stream.specs.declared.trim.Trim.TheVariants.{MinId}
use Rattle.xs_stream.specs.Id.{is_below}
use Rattle.xs_stream.specs.StreamContent.{ids_of, Ascends, entries_after_trim}
use Rattle.xs_stream.specs.Blocks.{contents, entries_of_blocks, AreFiled}
use Rattle.xs_stream.proofs.Order.{not_le-below, partial-le}
use Rattle.xs_stream.proofs.Dropping.{first-splits, popped, trimmed-popped, ascends-popped, length-popped}
use Rattle.xs_stream.proofs.Rooms.{Filed, first-room-within, measured-popped}
use Rattle.xs_stream.proofs.entries.Entries.drop_block_below.Goals as goal

split : (c : goal.After-self-2-1) → (bs : Filed) × (c.args.self.now.older.entries ≡ (c.in-Some.under.now, c.in-Some.block.now) ∷ bs)
split c = first-splits c.args.self.now.older.entries (c.in-Some.under.now, c.in-Some.block.now) c.in-Some.ensures.first

left : (c : goal.After-self-2-1) → c.pop_first.new.self.entries ≡ (split c).0
left c = popped c.pop_first.result c.args.self.now.older.entries c.pop_first.new.self.entries _ _ c.pop_first.ensures.variant.1 c.pop_first.ensures.removal (split c).1

pub overflow_sub-self-2 : goal.overflow_sub-self-2
overflow_sub-self-2 c =
    let all = c.args.self.now in
    let first = first-splits all.older.entries (c.in-Some.under.now, c.in-Some.block.now) c.in-Some.ensures.first in
    omega (arith, c.room-room.ensures.value, first-room-within all.older.entries [] all.room c.requires.laid_down.measured (c.in-Some.under.now, c.in-Some.block.now) first.0 first.1)

pub returns-clause-kept : goal.returns-clause-kept
returns-clause-kept c =
    let all = c.args.self.now in
    let newest = all.newest.entries in
    let es = c.in-Some.block.now.entries in
    let others = contents (split c).0 in
    let list = ap contents (split c).1 in
    let filed = subst (λ bs. AreFiled bs newest) list c.requires.laid_down.filed in
    let below : is_below c.in-Some.under.now c.args.low ≡ true = sym (not_le-below c.args.low c.in-Some.under.now) ∙ ap not (sym (partial-le _ _) ∙ sym c.le.ensures ∙ c.if-le.false) in
    ap (λ bs. entries_after_trim (MinId c.args.low) (entries_of_blocks (contents bs) ++ newest)) (left c) ∙ trimmed-popped c.args.low c.in-Some.under.now es others newest filed.0.up_to_id below
    ∙ ap (λ bs. entries_after_trim (MinId c.args.low) (entries_of_blocks bs ++ newest)) (sym list)

pub returns-clause-ascends : goal.returns-clause-ascends
returns-clause-ascends c =
    let all = c.args.self.now in
    let newest = all.newest.entries in
    subst (λ bs. Ascends (ids_of (entries_of_blocks (contents bs) ++ newest))) (sym (left c))
    (ascends-popped c.in-Some.block.now.entries (contents (split c).0) newest (subst (λ bs. Ascends (ids_of (entries_of_blocks (contents bs) ++ newest))) (split c).1 c.requires.ascends))

pub returns-clause-laid_down : goal.returns-clause-laid_down
returns-clause-laid_down c =
    let all = c.args.self.now in
    let newest = all.newest.entries in
    let es = c.in-Some.block.now.entries in
    let others = contents (split c).0 in
    let list = ap contents (split c).1 in
    record {
      filed = subst (λ bs. AreFiled (contents bs) newest) (sym (left c)) (subst (λ bs. AreFiled bs newest) list c.requires.laid_down.filed).1;
      measured = rw c.room-room.ensures.value (measured-popped all.older.entries c.pop_first.new.self.entries all.room c.requires.laid_down.measured (c.in-Some.under.now, c.in-Some.block.now) (split c).0 (split c).1 (left c));
      counted = omega (arith, c.requires.laid_down.counted, c.len-len.ensures, ap (λ bs. length (entries_of_blocks (contents bs) ++ newest)) (left c), ap (λ bs. length (entries_of_blocks bs ++ newest)) list, length-popped es others newest);
      small = omega (arith, c.requires.laid_down.small);
    }
