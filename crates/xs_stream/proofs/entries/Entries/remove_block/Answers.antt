use Rattle.std.proofs.Common.{[], arith}
use Rattle.xs_stream.proofs.Rooms.{room-within, measured-removed}
use Rattle.xs_stream.proofs.entries.Entries.remove_block.Goals as goal

pub overflow_sub-self : goal.overflow_sub-self
overflow_sub-self c =
    let all = c.args.self.now in
    omega (arith, c.room.ensures.value, room-within all.older.entries [] all.room c.requires.measured c.args.under c.in-Some.block c.in-Some.ensures.value)

pub returns-in-Some-clause-measured : goal.returns-in-Some-clause-measured
returns-in-Some-clause-measured c =
    let all = c.args.self.now in
    rw c.room.ensures.value (measured-removed all.older.entries c.remove.new.self.entries all.room c.requires.measured c.args.under c.in-Some.block c.in-Some.ensures.value c.remove.ensures.entries)
