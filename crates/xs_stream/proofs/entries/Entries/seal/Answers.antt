use Rattle.std.proofs.Common.{[], ap, ◌∙◌, arith}
use Rattle.std.specs.Map.{set_value}
use Rattle.xs_stream.specs.Id.{is_same_id}
use Rattle.xs_stream.specs.Blocks.{contents}
use Rattle.xs_stream.proofs.Contents.{contents-found, contents-written}
use Rattle.xs_stream.proofs.Joining.{rewritten}
use Rattle.xs_stream.proofs.Rooms.{adds-up, room-within, measured-set}
use Rattle.xs_stream.proofs.entries.Entries.seal.Goals as goal

pub sum_after-self-requires-clause-part : goal.sum_after-self-requires-clause-part
sum_after-self-requires-clause-part c =
    let all = c.args.self.now in
    omega (arith, c.room-before.ensures.value, room-within all.older.entries [] all.room c.requires.measured c.args.under c.in-Some.block.now c.in-Some.ensures.value)

pub sum_after-self-requires-clause-fits : goal.sum_after-self-requires-clause-fits
sum_after-self-requires-clause-fits c = omega (arith, c.room.ensures.small, adds-up _ _ c.requires.measured)

pub returns-in-Some-clause-blocks : goal.returns-in-Some-clause-blocks
returns-in-Some-clause-blocks c =
    let raw = c.args.self.now.older.entries in
    let under = c.args.under in
    contents-written under raw _ c.seal.new.self (c.get_mut.follows.holds c.seal.new.self).0 ∙ ap (set_value (is_same_id under) (contents raw)) c.seal.ensures
    ∙ rewritten under (contents raw) c.in-Some.block.now.entries (contents-found under raw c.in-Some.block.now c.in-Some.ensures.value)

pub returns-in-Some-clause-measured : goal.returns-in-Some-clause-measured
returns-in-Some-clause-measured c =
    let all = c.args.self.now in
    let left = c.seal.new.self in
    measured-set all.older.entries _ all.room c.requires.measured c.args.under c.in-Some.block.now c.in-Some.ensures.value left c.sum_after-self.result (c.get_mut.follows.holds left).0
    (omega (arith, c.room.ensures.value, c.room.ensures.small)) (omega (arith, c.sum_after-self.ensures, c.room-before.ensures.value, c.room.ensures.value))
