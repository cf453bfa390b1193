use Rattle.std.proofs.Common.{◌≡◌, ◌-◌, ◌≤◌, ◌<◌, ◌++◌, ◌∷◌, [], List, length, drop, sym, ap, ◌∙◌, arith, subst}
use Rattle.std.proofs.lemmas.List.{length-drop}
use Rattle.xs_stream.specs.declared.id.Id.{Id}
use Rattle.xs_stream.specs.declared.field.Field.{Field}
use Rattle.std.specs.Map.{keys_of}
use Rattle.xs_stream.specs.StreamContent.{AllUpTo}
use Rattle.xs_stream.specs.BlockState.{BlockState}
use Rattle.xs_stream.specs.Blocks.{contents, entries_of_blocks, AreFiled}
use Rattle.xs_stream.proofs.Contents.{contents-written}
use Rattle.xs_stream.proofs.Dropping.{first-splits, popped, drop-popped, drop-within, filed-within, lent-first}
use Rattle.xs_stream.proofs.Dropping.{written-first, first-counted, length-popped}
use Rattle.xs_stream.proofs.Rooms.{Filed, adds-up, first-room-within, measured-set, measured-popped}
use Rattle.xs_stream.proofs.entries.Entries.drop_step.Goals as goal

-- ---- the first block is removed

split : (c : goal.After-self-then-len-count-2-1) → (bs : Filed) × (c.args.self.now.older.entries ≡ (c.in-Some.under.now, c.in-Some.block.now) ∷ bs)
split c = first-splits c.args.self.now.older.entries (c.in-Some.under.now, c.in-Some.block.now) c.in-Some.ensures.first

left : (c : goal.After-self-then-len-count-2-1) → c.pop_first.new.self.entries ≡ (split c).0
left c = popped c.pop_first.result c.args.self.now.older.entries c.pop_first.new.self.entries _ _ c.pop_first.ensures.variant.1 c.pop_first.ensures.removal (split c).1

pub overflow_sub-self : goal.overflow_sub-self
overflow_sub-self c =
    let all = c.args.self.now in
    let first = first-splits all.older.entries (c.in-Some.under.now, c.in-Some.block.now) c.in-Some.ensures.first in
    omega (arith, c.len-len.ensures, c.requires.laid_down.counted, first-counted (contents all.older.entries) c.in-Some.under.now c.in-Some.block.now.entries (contents first.0) (ap contents first.1) all.newest.entries)

pub overflow_sub-self-then-len-count : goal.overflow_sub-self-then-len-count
overflow_sub-self-then-len-count c =
    let all = c.args.self.now in
    let first = first-splits all.older.entries (c.in-Some.under.now, c.in-Some.block.now) c.in-Some.ensures.first in
    omega (arith, c.room-room.ensures.value, first-room-within all.older.entries [] all.room c.requires.laid_down.measured (c.in-Some.under.now, c.in-Some.block.now) first.0 first.1)

pub returns-then-len-count-clause-entries : goal.returns-then-len-count-clause-entries
returns-then-len-count-clause-entries c =
    let newest = c.args.self.now.newest.entries in
    let es = c.in-Some.block.now.entries in
    let fits : length es ≤ c.args.count = omega (arith, c.len-len.ensures, c.if-len-count.true) in
    ap (λ bs. drop (c.args.count - c.len-len.result) (entries_of_blocks (contents bs) ++ newest)) (left c) ∙ ap (λ n. drop (c.args.count - n) (entries_of_blocks (contents (split c).0) ++ newest)) c.len-len.ensures
    ∙ drop-popped c.args.count es (contents (split c).0) newest fits ∙ ap (λ bs. drop c.args.count (entries_of_blocks (contents bs) ++ newest)) (sym (split c).1)

pub returns-then-len-count-clause-laid_down : goal.returns-then-len-count-clause-laid_down
returns-then-len-count-clause-laid_down c =
    let all = c.args.self.now in
    let newest = all.newest.entries in
    let es = c.in-Some.block.now.entries in
    let others = contents (split c).0 in
    let list = ap contents (split c).1 in
    record {
      filed = subst (λ bs. AreFiled (contents bs) newest) (sym (left c)) (subst (λ bs. AreFiled bs newest) list c.requires.laid_down.filed).1;
      measured = rw c.room-room.ensures.value (measured-popped all.older.entries c.pop_first.new.self.entries all.room c.requires.laid_down.measured (c.in-Some.under.now, c.in-Some.block.now) (split c).0 (split c).1 (left c));
      counted = omega (arith, c.requires.laid_down.counted, c.len-len.ensures, ap (λ bs. length (entries_of_blocks (contents bs) ++ newest)) (left c), ap (λ bs. length (entries_of_blocks bs ++ newest)) list, length-popped es others newest);
      small = omega (arith, c.requires.laid_down.small);
    }

-- ---- some of its entries are removed

first : (c : goal.After-self-3-1) → (bs : Filed) × (c.args.self.now.older.entries ≡ (c.in-Some.under.now, c.in-Some.block.now) ∷ bs)
first c = first-splits c.args.self.now.older.entries (c.in-Some.under.now, c.in-Some.block.now) c.in-Some.ensures.first

lent : (c : goal.After-self-3-1) → c.in-Some-get_mut.block.now ≡ c.in-Some.block.now
lent c = lent-first c.args.self.now.older.entries c.in-Some.under.now c.in-Some.block.now (first c).0 (first c).1 c.in-Some-get_mut.block.now c.in-Some-get_mut.ensures.value

shorter : (c : goal.After-self-3-1) → contents (c.get_mut.follows.lender c.drop_first-2.new.self).entries ≡ (c.in-Some.under.now, drop c.args.count c.in-Some.block.now.entries) ∷ contents (first c).0
shorter c =
    let raw = c.args.self.now.older.entries in
    let under = c.in-Some.under.now in
    let left = c.drop_first-2.new.self in
    written-first (contents raw) under c.in-Some.block.now.entries (contents (first c).0) (ap contents (first c).1) _ left.entries (contents-written under raw _ left (c.get_mut.follows.holds left).0)
    ∙ ap (λ (fs : List (Id × List Field)). (under, fs) ∷ contents (first c).0) (c.drop_first-2.ensures ∙ ap (λ (b : BlockState). drop c.args.count b.entries) (lent c))

few : (c : goal.After-self-3-1) → c.args.count < length c.in-Some.block.now.entries
few c = omega (arith, c.len-len.ensures, c.if-len-count.false)

entries : (c : goal.After-self-3-1) → entries_of_blocks (contents (c.get_mut.follows.lender c.drop_first-2.new.self).entries) ++ c.args.self.now.newest.entries ≡ drop c.args.count (entries_of_blocks (contents c.args.self.now.older.entries) ++ c.args.self.now.newest.entries)
entries c =
    let newest = c.args.self.now.newest.entries in
    ap (λ bs. entries_of_blocks bs ++ newest) (shorter c) ∙ drop-within c.args.count c.in-Some.block.now.entries (contents (first c).0) newest (omega (arith, few c)) ∙ ap (λ bs. drop c.args.count (entries_of_blocks (contents bs) ++ newest)) (sym (first c).1)

pub returns-clause-entries : goal.returns-clause-entries
returns-clause-entries c = entries c

pub overflow_sub-self-2 : goal.overflow_sub-self-2
overflow_sub-self-2 c =
    let all = c.args.self.now in
    let split = first-splits all.older.entries (c.in-Some.under.now, c.in-Some.block.now) c.in-Some.ensures.first in
    omega (arith, c.len-len.ensures, c.if-len-count.false, c.requires.laid_down.counted, first-counted (contents all.older.entries) c.in-Some.under.now c.in-Some.block.now.entries (contents split.0) (ap contents split.1) all.newest.entries)

pub sum_after-self-requires-clause-part : goal.sum_after-self-requires-clause-part
sum_after-self-requires-clause-part c =
    let all = c.args.self.now in
    let split = first-splits all.older.entries (c.in-Some.under.now, c.in-Some.block.now) c.in-Some.ensures.first in
    omega (arith, c.room-room.ensures.value, first-room-within all.older.entries [] all.room c.requires.laid_down.measured (c.in-Some.under.now, c.in-Some.block.now) split.0 split.1)

pub sum_after-self-requires-clause-fits : goal.sum_after-self-requires-clause-fits
sum_after-self-requires-clause-fits c = omega (arith, c.room.ensures.small, adds-up _ _ c.requires.laid_down.measured)

pub returns-clause-filed_up_to_top : goal.returns-clause-filed_up_to_top
returns-clause-filed_up_to_top c = λ top up.
    subst (λ bs. AllUpTo top (keys_of bs)) (sym (shorter c)) (subst (λ bs. AllUpTo top (keys_of (contents bs))) (first c).1 up)

pub returns-clause-laid_down : goal.returns-clause-laid_down
returns-clause-laid_down c =
    let all = c.args.self.now in
    let newest = all.newest.entries in
    let left = c.drop_first-2.new.self in
    record {
      filed = subst (λ bs. AreFiled bs newest) (sym (shorter c)) (filed-within c.args.count c.in-Some.under.now c.in-Some.block.now.entries (contents (first c).0) newest (few c) (subst (λ bs. AreFiled (contents bs) newest) (first c).1 c.requires.laid_down.filed));
      measured = measured-set all.older.entries _ all.room c.requires.laid_down.measured c.in-Some.under.now c.in-Some-get_mut.block.now c.in-Some-get_mut.ensures.value left c.sum_after-self.result (c.get_mut.follows.holds left).0
          (omega (arith, c.room.ensures.value, c.room.ensures.small)) (omega (arith, c.sum_after-self.ensures, c.room-room.ensures.value, c.room.ensures.value, ap (λ (b : BlockState). b.room) (lent c)));
      counted = omega (arith, c.requires.laid_down.counted, ap length (entries c), length-drop c.args.count (entries_of_blocks (contents all.older.entries) ++ newest));
      small = omega (arith, c.requires.laid_down.small);
    }
