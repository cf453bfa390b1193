use Rattle.std.proofs.Common.{ap, arith}
use Rattle.xs_keys.specs.Terms.{NameMap, GroupState, new_group}
use Rattle.xs_keys.specs.GroupLife.{starting_id}
use Rattle.xs_group.specs.GroupRoom.{room_of_group}
use Rattle.xs_keys.specs.KeysRoom.{room_of_named}
use Rattle.xs_keys.proofs.NamedRooms.{room-grown}
use Rattle.xs_keys.proofs.KeyInPlace.{none-at}
use Rattle.xs_keys.proofs.xgroup.create_in.Goals as goal

pub returns-clause-counted : goal.returns-clause-counted
returns-clause-counted c =
    let old = c.args.groups.now in
    let name = c.args.command.now.group in
    let new : GroupState = new_group (starting_id c.args.command.now.start c.args.top) in
    let grown = room-grown room_of_group old name new (none-at old name (rw c.contains_key.ensures at c.if-contains_key.false)) in
    let same = ap (λ (m : NameMap GroupState). room_of_named room_of_group m.entries) c.in-Ok.ensures.ok in
    omega (arith, grown, same, c.in-Ok.ensures.room, c.change.ensures.held)
