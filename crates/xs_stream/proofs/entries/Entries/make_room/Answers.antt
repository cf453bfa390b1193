use Rattle.std.proofs.Common.{◌≡◌, ◌+◌, ◌<◌, ◌^◌, List, [], ◌∷◌, ◌++◌, length, sym, ap, ◌∙◌, arith, length-append}
use Rattle.std.specs.BTreeMap.{insert_entry}
use Rattle.xs_stream.specs.declared.id.Id.{Id}
use Rattle.xs_stream.specs.declared.field.Field.{Field}
use Rattle.xs_stream.specs.Id.{id_cmp}
use Rattle.xs_stream.specs.BlockState.{BlockState}
use Rattle.xs_stream.specs.Blocks.{contents, entries_of_blocks, AreFiled}
use Rattle.std.proofs.lemmas.Bool.Decides.{nat_tests}
use Rattle.xs_stream.proofs.Contents.{contents-insert, contents-length}
use Rattle.xs_stream.proofs.FiledBlocks.{insert-newest, listed-filed, filed-filed, keys-filed}
use Rattle.xs_stream.proofs.Rooms.{adds-up, few-blocks, measured-inserted}
use Rattle.xs_stream.proofs.entries.Entries.make_room.Goals as goal

some : (c : goal.Joined-insert-2) → length c.args.self.now.newest.entries ≡ 0 → ⊥
some c none = grind (arith, nat_tests)

-- the newest entries are a block after the others
filed : (c : goal.Joined-insert-2) → contents c.insert.new.self.entries ≡ contents c.args.self.now.older.entries ++ (c.args.top, c.args.self.now.newest.entries) ∷ []
filed c =
    let all = c.args.self.now in
    let older = contents all.older.entries in
    ap contents c.in-Ok.ensures.entries ∙ contents-insert all.older.entries c.args.top c.seal.new.self
    ∙ ap (insert_entry id_cmp older c.args.top) (c.seal.ensures ∙ ap (λ (b : BlockState). b.entries) c.replace-full.ensures.value)
    ∙ insert-newest c.args.top older all.newest.entries c.requires.laid_down.filed c.requires.up_to_top (some c)

-- and there are no newer ones
emptied : (c : goal.Joined-insert-2) → ◌≡◌ {A = List (Id × List Field)} c.replace-full.new.dest.entries []
emptied c = ap (λ (b : BlockState). b.entries) c.replace-full.ensures.after ∙ c.with_room.ensures

same : (c : goal.Joined-insert-2) → entries_of_blocks (contents c.insert.new.self.entries) ++ c.replace-full.new.dest.entries ≡ entries_of_blocks (contents c.args.self.now.older.entries) ++ c.args.self.now.newest.entries
same c = rw (filed c, emptied c) (listed-filed c.args.top (contents c.args.self.now.older.entries) c.args.self.now.newest.entries)

are_filed : (c : goal.Joined-insert-2) → AreFiled (contents c.insert.new.self.entries) c.replace-full.new.dest.entries
are_filed c =
    let all = c.args.self.now in
    rw (filed c, emptied c) (filed-filed c.args.top (contents all.older.entries) all.newest.entries c.requires.laid_down.filed c.requires.up_to_top (some c))

one_more : (c : goal.Joined-insert-2) → length c.insert.new.self.entries ≡ length c.args.self.now.older.entries + 1
one_more c =
    let raw = c.args.self.now.older.entries in
    omega (arith, ap length (filed c), length-append (contents raw) ((c.args.top, c.args.self.now.newest.entries) ∷ []), contents-length raw, contents-length c.insert.new.self.entries)

few : (c : goal.Joined-insert-2) → length c.insert.new.self.entries < 2 ^ 63
few c =
    omega (arith, few-blocks (contents c.insert.new.self.entries) c.replace-full.new.dest.entries (are_filed c), ap length (same c), c.requires.laid_down.counted, c.requires.laid_down.small, contents-length c.insert.new.self.entries)

pub overflow_add-self-in-Ok : goal.overflow_add-self-in-Ok
overflow_add-self-in-Ok c = omega (arith, c.room-room.ensures.small, adds-up _ _ c.requires.laid_down.measured)

pub returns-in-Ok-clause-same : goal.returns-in-Ok-clause-same
returns-in-Ok-clause-same c = same c

pub returns-in-Ok-clause-laid_down : goal.returns-in-Ok-clause-laid_down
returns-in-Ok-clause-laid_down c =
    let all = c.args.self.now in
    record {
      filed = are_filed c;
      measured = rw c.room-room.ensures.value (measured-inserted all.older.entries c.insert.new.self.entries all.room c.requires.laid_down.measured c.args.top c.seal.new.self c.in-Ok.ensures.entries (one_more c) (few c) (omega (arith, c.room-room.ensures.value, c.room-room.ensures.small)));
      counted = c.requires.laid_down.counted ∙ ap length (sym (same c));
      small = c.requires.laid_down.small;
    }

pub returns-in-Ok-clause-filed_up_to_top : goal.returns-in-Ok-clause-filed_up_to_top
returns-in-Ok-clause-filed_up_to_top c = rw (filed c) (keys-filed c.args.top (contents c.args.self.now.older.entries) c.args.self.now.newest.entries c.requires.filed_up_to_top)
