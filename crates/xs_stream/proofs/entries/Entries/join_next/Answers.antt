use Rattle.std.proofs.Common.{◌≡◌, [], ◌++◌, List, Option, Some, None, length, sym, ap, ◌∙◌, refl, arith}
use Rattle.std.specs.Map.{lookup, remove_entry, set_value}
use Rattle.xs_stream.specs.declared.id.Id.{Id}
use Rattle.xs_stream.specs.declared.field.Field.{Field}
use Rattle.xs_stream.specs.Id.{is_same_id}
use Rattle.xs_stream.specs.BlockState.{BlockState}
use Rattle.xs_stream.specs.Blocks.{contents}
use Rattle.xs_stream.proofs.Contents.{contents-found, contents-absent, contents-written, contents-remove}
use Rattle.xs_stream.proofs.Joining.{joined, joined-is, listed-joined, filed-joined, keys-joined, restored, found-set}
use Rattle.xs_stream.proofs.Joining.{found-some}
use Rattle.xs_stream.proofs.Rooms.{adds-up, room-within, measured-set}
use Rattle.xs_stream.proofs.entries.Entries.join_next.Goals as goal

-- ---- the block is taken out, and an empty one is in its place

pub sum_after-self-requires-clause-part : goal.sum_after-self-requires-clause-part
sum_after-self-requires-clause-part c =
    let all = c.args.self.now in
    omega (arith, c.room.ensures.value, ap (λ (b : BlockState). b.room) c.replace-front.ensures.value, room-within all.older.entries [] all.room c.requires.measured c.args.under c.in-Some-get_mut.block.now c.in-Some-get_mut.ensures.value)

pub sum_after-self-requires-clause-fits : goal.sum_after-self-requires-clause-fits
sum_after-self-requires-clause-fits c = omega (arith, c.room-2.ensures.small, adds-up _ _ c.requires.measured)

pub join_into-requires-clause-some : goal.join_into-requires-clause-some
join_into-requires-clause-some c =
    let all = c.args.self.now in
    let own = c.in-Some-get_mut.block.now in
    omega (arith, ap (λ (b : BlockState). length b.entries) c.replace-front.ensures.value, found-some c.args.under (contents all.older.entries) all.newest.entries own.entries c.requires.filed (contents-found c.args.under all.older.entries own c.in-Some-get_mut.ensures.value))

pub join_into-requires-clause-measured : goal.join_into-requires-clause-measured
join_into-requires-clause-measured c =
    let all = c.args.self.now in
    let left = c.replace-front.new.dest in
    let whole = ap (λ (b : BlockState). b.room) c.replace-front.ensures.value in
    measured-set all.older.entries _ all.room c.requires.measured c.args.under c.in-Some-get_mut.block.now c.in-Some-get_mut.ensures.value left c.sum_after-self.result (c.get_mut.follows.holds left).0
    (omega (arith, c.room-2.ensures.value, c.room-2.ensures.small)) (omega (arith, whole, c.sum_after-self.ensures, c.room.ensures.value, c.room-2.ensures.value))

-- ---- joined

gone : (c : goal.After-drop-front-inside) → contents c.remove_block.new.self.older.entries ≡ joined c.args.under (contents c.args.self.now.older.entries)
gone c =
    let all = c.args.self.now in
    let older = contents all.older.entries in
    let under = c.args.under in
    let own = c.in-Some-get_mut.block.now in
    let first = contents-found under all.older.entries own c.in-Some-get_mut.ensures.value in
    let left : contents (c.get_mut.follows.lender c.replace-front.new.dest).entries ≡ set_value (is_same_id under) older [] =
    contents-written under all.older.entries _ c.replace-front.new.dest (c.get_mut.follows.holds c.replace-front.new.dest).0
    ∙ ap (set_value (is_same_id under) older) (ap (λ (b : BlockState). b.entries) c.replace-front.ensures.after ∙ c.new.ensures) in
    let done = c.if-join_into.ensures.joined refl in
    let second : lookup (is_same_id c.in-Some.next) (set_value (is_same_id under) older []) ≡ Some done.0 = sym (ap (lookup (is_same_id c.in-Some.next)) left) ∙ done.1 in
    ap contents c.remove_block.ensures.blocks ∙ contents-remove (is_same_id under) c.join_into.new.self.older.entries
    ∙ ap (remove_entry (is_same_id under)) (done.2 ∙ ap (λ bs. set_value (is_same_id c.in-Some.next) bs (c.replace-front.result.entries ++ done.0)) left
    ∙ ap (λ (b : BlockState). set_value (is_same_id c.in-Some.next) (set_value (is_same_id under) older []) (b.entries ++ done.0)) c.replace-front.ensures.value)
    ∙ joined-is under c.in-Some.next older all.newest.entries own.entries done.0 c.requires.filed first (sym c.in-Some.ensures) second

pub returns-then-join_into-clause-same : goal.returns-then-join_into-clause-same
returns-then-join_into-clause-same c =
    let all = c.args.self.now in
    rw (gone c, c.remove_block.ensures.newest, c.join_into.ensures.newest) (ap (λ es. es ++ all.newest.entries) (listed-joined c.args.under (contents all.older.entries)))

pub returns-then-join_into-clause-filed : goal.returns-then-join_into-clause-filed
returns-then-join_into-clause-filed c =
    let all = c.args.self.now in
    rw (gone c, c.remove_block.ensures.newest, c.join_into.ensures.newest) (filed-joined c.args.under (contents all.older.entries) all.newest.entries c.requires.filed)

pub returns-then-join_into-clause-filed_up_to_top : goal.returns-then-join_into-clause-filed_up_to_top
returns-then-join_into-clause-filed_up_to_top c = λ top up. rw (gone c) (keys-joined top c.args.under (contents c.args.self.now.older.entries) up)

-- ---- put back

pub sum_after-self-requires-in-Some-get_mut-2-clause-part : goal.sum_after-self-requires-in-Some-get_mut-2-clause-part
sum_after-self-requires-in-Some-get_mut-2-clause-part c =
    let now = c.join_into.new.self in
    omega (arith, c.room-in-Some-get_mut-2.ensures.value, room-within now.older.entries [] now.room c.join_into.ensures.measured c.args.under c.in-Some-get_mut-2.block.now c.in-Some-get_mut-2.ensures.value)

pub sum_after-self-requires-in-Some-get_mut-2-clause-fits : goal.sum_after-self-requires-in-Some-get_mut-2-clause-fits
sum_after-self-requires-in-Some-get_mut-2-clause-fits c = omega (arith, c.room-in-Some-get_mut-2-2.ensures.small, adds-up _ _ c.join_into.ensures.measured)

back : (c : goal.After-drop-block) → contents (c.get_mut-2.follows.lender c.join_into.new.front).entries ≡ contents c.args.self.now.older.entries
back c =
    let raw = c.args.self.now.older.entries in
    let older = contents raw in
    let under = c.args.under in
    let own = c.in-Some-get_mut.block.now in
    let front = c.join_into.new.front in
    let left : contents (c.get_mut.follows.lender c.replace-front.new.dest).entries ≡ set_value (is_same_id under) older [] =
    contents-written under raw _ c.replace-front.new.dest (c.get_mut.follows.holds c.replace-front.new.dest).0
    ∙ ap (set_value (is_same_id under) older) (ap (λ (b : BlockState). b.entries) c.replace-front.ensures.after ∙ c.new.ensures) in
    let kept = c.if-join_into.ensures.refused refl in
    contents-written under c.join_into.new.self.older.entries _ front (c.get_mut-2.follows.holds front).0 ∙ ap (λ bs. set_value (is_same_id under) bs front.entries) (kept.0 ∙ left)
    ∙ ap (set_value (is_same_id under) (set_value (is_same_id under) older [])) (kept.1 ∙ ap (λ (b : BlockState). b.entries) c.replace-front.ensures.value)
    ∙ restored under older own.entries (contents-found under raw own c.in-Some-get_mut.ensures.value)

pub returns-in-Some-get_mut-2-clause-same : goal.returns-in-Some-get_mut-2-clause-same
returns-in-Some-get_mut-2-clause-same c = rw (back c, c.join_into.ensures.newest) refl

pub returns-in-Some-get_mut-2-clause-filed : goal.returns-in-Some-get_mut-2-clause-filed
returns-in-Some-get_mut-2-clause-filed c = rw (back c, c.join_into.ensures.newest) c.requires.filed

pub returns-in-Some-get_mut-2-clause-filed_up_to_top : goal.returns-in-Some-get_mut-2-clause-filed_up_to_top
returns-in-Some-get_mut-2-clause-filed_up_to_top c = λ top up. rw (back c) up

pub returns-in-Some-get_mut-2-clause-measured : goal.returns-in-Some-get_mut-2-clause-measured
returns-in-Some-get_mut-2-clause-measured c =
    let now = c.join_into.new.self in
    let front = c.join_into.new.front in
    measured-set now.older.entries _ now.room c.join_into.ensures.measured c.args.under c.in-Some-get_mut-2.block.now c.in-Some-get_mut-2.ensures.value front c.sum_after-self-in-Some-get_mut-2.result (c.get_mut-2.follows.holds front).0
    (omega (arith, c.room-in-Some-get_mut-2-2.ensures.value, c.room-in-Some-get_mut-2-2.ensures.small)) (omega (arith, c.sum_after-self-in-Some-get_mut-2.ensures, c.room-in-Some-get_mut-2.ensures.value, c.room-in-Some-get_mut-2-2.ensures.value))

pub returns-in_default-get_mut-2 : goal.returns-in_default-get_mut-2
returns-in_default-get_mut-2 c =
    let raw = c.args.self.now.older.entries in
    let older = contents raw in
    let under = c.args.under in
    let own = c.in-Some-get_mut.block.now in
    let left : contents (c.get_mut.follows.lender c.replace-front.new.dest).entries ≡ set_value (is_same_id under) older [] =
    contents-written under raw _ c.replace-front.new.dest (c.get_mut.follows.holds c.replace-front.new.dest).0
    ∙ ap (set_value (is_same_id under) older) (ap (λ (b : BlockState). b.entries) c.replace-front.ensures.after ∙ c.new.ensures) in
    let kept = c.if-join_into.ensures.refused refl in
    let no : ◌≡◌ {A = Option (List (Id × List Field))} None (Some []) = sym (contents-absent under c.join_into.new.self.older.entries c.in_default-get_mut-2.ensures.value) ∙ ap (lookup (is_same_id under)) (kept.0 ∙ left)
    ∙ found-set under older own.entries [] (contents-found under raw own c.in-Some-get_mut.ensures.value) in
    absurd (cc)
