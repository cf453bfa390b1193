use Rattle.std.proofs.Common.{◌∷◌, [], ◌++◌, length, ap, arith, append_assoc}
use Rattle.std.proofs.lemmas.List.{length_push}
use Rattle.xs_stream.specs.Blocks.{contents, entries_of_blocks}
use Rattle.xs_stream.proofs.FiledBlocks.{filed-push}
use Rattle.xs_stream.proofs.entries.Entries.push.Goals as goal

pub returns-clause-laid_down : goal.returns-clause-laid_down
returns-clause-laid_down c =
    let made = c.make_room.new.self in
    let behind = append_assoc (entries_of_blocks (contents made.older.entries)) made.newest.entries ((c.args.id, c.args.fields.now) ∷ []) in
    record {
      filed = rw c.in_ok-push.ensures.ok (filed-push c.args.top c.args.id c.args.fields.now (contents made.older.entries) made.newest.entries c.make_room.ensures.laid_down.filed c.make_room.ensures.filed_up_to_top c.requires.above);
      measured = c.make_room.ensures.laid_down.measured;
      counted = rw (c.in_ok-push.ensures.ok, ← behind) (omega (arith, length_push (entries_of_blocks (contents made.older.entries) ++ made.newest.entries) (c.args.id, c.args.fields.now), c.make_room.ensures.laid_down.counted));
      small = omega (arith, ap length c.make_room.ensures.same, c.requires.laid_down.counted, c.make_room.ensures.laid_down.counted, c.if-self-ge-MOST_IN_STREAM.false);
    }
