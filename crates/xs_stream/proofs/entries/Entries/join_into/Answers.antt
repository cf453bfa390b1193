use Rattle.std.proofs.Common.{[], ap, ◌∙◌, arith}
use Rattle.std.specs.Map.{set_value}
use Rattle.xs_stream.specs.Id.{is_same_id}
use Rattle.xs_stream.specs.BlockState.{BlockState}
use Rattle.xs_stream.specs.Blocks.{contents}
use Rattle.xs_stream.proofs.Contents.{contents-found, contents-written}
use Rattle.xs_stream.proofs.Joining.{rewritten}
use Rattle.xs_stream.proofs.Rooms.{adds-up, room-within, measured-set, measured-kept}
use Rattle.xs_stream.proofs.entries.Entries.join_into.Goals as goal

pub returns-then-not-take_in-clause-refused : goal.returns-then-not-take_in-clause-refused
returns-then-not-take_in-clause-refused c = λ refused.
    let raw = c.args.self.now.older.entries in
    let block = c.in-Some.block.now in
    (contents-written c.args.next raw _ block (c.get_mut.follows.holds block).0 ∙ rewritten c.args.next (contents raw) block.entries (contents-found c.args.next raw block c.in-Some.ensures.value), c.if-not-take_in.ensures)

pub returns-then-not-take_in-clause-measured : goal.returns-then-not-take_in-clause-measured
returns-then-not-take_in-clause-measured c =
    let all = c.args.self.now in
    let block = c.in-Some.block.now in
    measured-kept all.older.entries _ all.room c.requires.measured c.args.next block c.in-Some.ensures.value (c.get_mut.follows.holds block).0

pub sum_after-self-requires-clause-part : goal.sum_after-self-requires-clause-part
sum_after-self-requires-clause-part c =
    let all = c.args.self.now in
    omega (arith, c.room.ensures.value, room-within all.older.entries [] all.room c.requires.measured c.args.next c.in-Some.block.now c.in-Some.ensures.value)

pub sum_after-self-requires-clause-fits : goal.sum_after-self-requires-clause-fits
sum_after-self-requires-clause-fits c = omega (arith, c.room-2.ensures.small, adds-up _ _ c.requires.measured)

pub returns-clause-joined : goal.returns-clause-joined
returns-clause-joined c = λ done.
    let raw = c.args.self.now.older.entries in (
      c.in-Some.block.now.entries,
      contents-found c.args.next raw c.in-Some.block.now c.in-Some.ensures.value,
      contents-written c.args.next raw _ c.swap.new.y (c.get_mut.follows.holds c.swap.new.y).0
          ∙ ap (set_value (is_same_id c.args.next) (contents raw)) (ap (λ (b : BlockState). b.entries) c.swap.ensures.y_after ∙ c.if-not-take_in.ensures),
    )

pub returns-clause-measured : goal.returns-clause-measured
returns-clause-measured c =
    let all = c.args.self.now in
    let left = c.swap.new.y in
    let whole = ap (λ (b : BlockState). b.room) c.swap.ensures.y_after in
    measured-set all.older.entries _ all.room c.requires.measured c.args.next c.in-Some.block.now c.in-Some.ensures.value left c.sum_after-self.result (c.get_mut.follows.holds left).0
    (omega (arith, whole, c.room-2.ensures.value, c.room-2.ensures.small)) (omega (arith, whole, c.sum_after-self.ensures, c.room.ensures.value, c.room-2.ensures.value))
