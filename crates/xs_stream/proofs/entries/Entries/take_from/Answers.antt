use Rattle.std.proofs.Common.{◌≡◌, [], not, Some, None, Option, List, length, sym, ap, ◌∙◌, arith, length-append}
use Rattle.std.specs.Map.{lookup_entry, remove_entry}
use Rattle.xs_stream.specs.declared.id.Id.{Id}
use Rattle.xs_stream.specs.declared.field.Field.{Field}
use Rattle.xs_stream.specs.Id.{is_below, is_same_id}
use Rattle.xs_stream.specs.Blocks.{contents, entries_of_blocks}
use Rattle.xs_stream.proofs.Contents.{contents-found, contents-absent, contents-written, contents-remove}
use Rattle.xs_stream.proofs.FiledBlocks.{same-under, entry-of_key, lent-entry, blocks_without, set-left, removed-left}
use Rattle.xs_stream.proofs.FiledBlocks.{listed-without, length-without, filed-without, keys-without}
use Rattle.xs_stream.proofs.Rooms.{adds-up, room-within, measured-set}
use Rattle.xs_stream.proofs.entries.Entries.take_from.Goals as goal
use Rattle.xs_stream.proofs.entries.Entries.take_from.Goals.{After-remove_block}

pub returns-in_default-clause-entries : goal.returns-in_default-clause-entries
returns-in_default-clause-entries c =
    let raw = c.args.self.now.older.entries in
    let older = contents raw in
    let entry = entry-of_key (λ k. not (is_below k c.args.id)) older c.args.under c.requires.under in
    let no : ◌≡◌ {A = Option (List (Id × List Field))} None (Some entry.0) = sym (contents-absent c.args.under raw c.in_default.ensures.value) ∙ same-under c.args.id older c.args.under entry.0 entry.1 in
    absurd (cc)

-- ---- the memory

pub sum_after-self-requires-clause-part : goal.sum_after-self-requires-clause-part
sum_after-self-requires-clause-part c =
    let all = c.args.self.now in
    omega (arith, c.room-before.ensures.value, room-within all.older.entries [] all.room c.requires.measured c.args.under c.in-Some.block.now c.in-Some.ensures.value)

pub sum_after-self-requires-clause-fits : goal.sum_after-self-requires-clause-fits
sum_after-self-requires-clause-fits c = omega (arith, c.room.ensures.small, adds-up _ _ c.requires.measured)

pub remove_block-requires : goal.remove_block-requires
remove_block-requires c =
    let all = c.args.self.now in
    let left = c.remove-removed.new.self in
    record {
      measured = measured-set all.older.entries _ all.room c.requires.measured c.args.under c.in-Some.block.now c.in-Some.ensures.value left c.sum_after-self.result (c.get_mut.follows.holds left).0
          (omega (arith, c.room.ensures.value, c.room.ensures.small)) (omega (arith, c.sum_after-self.ensures, c.room-before.ensures.value, c.room.ensures.value));
    }

-- ---- the block is removed with its last entry

lent : (c : After-remove_block) → lookup_entry (λ k. not (is_below k c.args.id)) (contents c.args.self.now.older.entries) ≡ Some (c.args.under, c.in-Some.block.now.entries)
lent c =
    let raw = c.args.self.now.older.entries in
    lent-entry c.args.id (contents raw) c.args.under c.in-Some.block.now.entries c.requires.under (sym (contents-found c.args.under raw c.in-Some.block.now c.in-Some.ensures.value))

gone : (c : After-remove_block) → contents c.remove_block.new.self.older.entries ≡ blocks_without c.args.id (contents c.args.self.now.older.entries)
gone c =
    let raw = c.args.self.now.older.entries in
    let left = c.remove-removed.new.self in
    ap contents c.remove_block.ensures.blocks ∙ contents-remove (is_same_id c.args.under) (c.get_mut.follows.lender left).entries
    ∙ ap (remove_entry (is_same_id c.args.under)) (contents-written c.args.under raw _ left (c.get_mut.follows.holds left).0)
    ∙ removed-left c.args.id (contents raw) c.args.under c.in-Some.block.now.entries left.entries (lent c) c.remove-removed.ensures.entries (sym c.if-is_empty.ensures)

pub returns-then-is_empty-clause-entries : goal.returns-then-is_empty-clause-entries
returns-then-is_empty-clause-entries c =
    let all = c.args.self.now in
    rw (gone c, c.remove_block.ensures.newest) (listed-without c.args.id (contents all.older.entries) all.newest.entries _ (lent c) c.requires.filed)

pub returns-then-is_empty-clause-filed : goal.returns-then-is_empty-clause-filed
returns-then-is_empty-clause-filed c =
    let all = c.args.self.now in
    rw (gone c, c.remove_block.ensures.newest) (filed-without c.args.id (contents all.older.entries) all.newest.entries _ (lent c) c.requires.filed)

pub returns-then-is_empty-clause-filed_up_to_top : goal.returns-then-is_empty-clause-filed_up_to_top
returns-then-is_empty-clause-filed_up_to_top c = λ top up.
    rw (gone c) (keys-without c.args.id top (contents c.args.self.now.older.entries) up)

pub returns-then-is_empty-clause-count : goal.returns-then-is_empty-clause-count
returns-then-is_empty-clause-count c =
    let all = c.args.self.now in
    let older = contents all.older.entries in
    let newest = all.newest.entries in
    let left = blocks_without c.args.id older in
    let from = length-without c.args.id older c.args.under c.in-Some.block.now.entries (lent c) in
    let own = ap length c.remove-removed.ensures.entries in
    rw (gone c, c.remove_block.ensures.newest) (omega (arith, length-append (entries_of_blocks left) newest, length-append (entries_of_blocks older) newest, from, own, c.remove-removed.ensures.count))

-- ---- the block has other entries

lent-2 : (c : goal.Else-is_empty) → lookup_entry (λ k. not (is_below k c.args.id)) (contents c.args.self.now.older.entries) ≡ Some (c.args.under, c.in-Some.block.now.entries)
lent-2 c =
    let raw = c.args.self.now.older.entries in
    lent-entry c.args.id (contents raw) c.args.under c.in-Some.block.now.entries c.requires.under (sym (contents-found c.args.under raw c.in-Some.block.now c.in-Some.ensures.value))

fewer : (c : goal.Else-is_empty) → contents (c.get_mut.follows.lender c.remove-removed.new.self).entries ≡ blocks_without c.args.id (contents c.args.self.now.older.entries)
fewer c =
    let raw = c.args.self.now.older.entries in
    let left = c.remove-removed.new.self in
    contents-written c.args.under raw _ left (c.get_mut.follows.holds left).0
    ∙ set-left c.args.id (contents raw) c.args.under c.in-Some.block.now.entries left.entries (lent-2 c) c.remove-removed.ensures.entries (sym c.if-is_empty.ensures)

pub returns-else-is_empty-clause-entries : goal.returns-else-is_empty-clause-entries
returns-else-is_empty-clause-entries c =
    let all = c.args.self.now in
    rw (fewer c) (listed-without c.args.id (contents all.older.entries) all.newest.entries _ (lent-2 c) c.requires.filed)

pub returns-else-is_empty-clause-filed : goal.returns-else-is_empty-clause-filed
returns-else-is_empty-clause-filed c =
    let all = c.args.self.now in
    rw (fewer c) (filed-without c.args.id (contents all.older.entries) all.newest.entries _ (lent-2 c) c.requires.filed)

pub returns-else-is_empty-clause-filed_up_to_top : goal.returns-else-is_empty-clause-filed_up_to_top
returns-else-is_empty-clause-filed_up_to_top c = λ top up.
    rw (fewer c) (keys-without c.args.id top (contents c.args.self.now.older.entries) up)

pub returns-else-is_empty-clause-measured : goal.returns-else-is_empty-clause-measured
returns-else-is_empty-clause-measured c =
    let all = c.args.self.now in
    let left = c.remove-removed.new.self in
    measured-set all.older.entries _ all.room c.requires.measured c.args.under c.in-Some.block.now c.in-Some.ensures.value left c.sum_after-self.result (c.get_mut.follows.holds left).0
    (omega (arith, c.room.ensures.value, c.room.ensures.small)) (omega (arith, c.sum_after-self.ensures, c.room-before.ensures.value, c.room.ensures.value))

pub returns-else-is_empty-clause-count : goal.returns-else-is_empty-clause-count
returns-else-is_empty-clause-count c =
    let all = c.args.self.now in
    let older = contents all.older.entries in
    let newest = all.newest.entries in
    let left = blocks_without c.args.id older in
    let from = length-without c.args.id older c.args.under c.in-Some.block.now.entries (lent-2 c) in
    let own = ap length c.remove-removed.ensures.entries in
    rw (fewer c) (omega (arith, length-append (entries_of_blocks left) newest, length-append (entries_of_blocks older) newest, from, own, c.remove-removed.ensures.count))
