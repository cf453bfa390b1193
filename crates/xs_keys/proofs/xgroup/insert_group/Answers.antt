use Rattle.std.proofs.Common.{◌≡◌, ap, ◌∙◌, arith}
use Rattle.xs_bytes.specs.SortedMap as maps
use Rattle.xs_group.specs.GroupRoom.{room_of_group}
use Rattle.xs_keys.proofs.xgroup.insert_group.Goals as goal

-- the count of a new group is small
pub overflow_add-room : goal.overflow_add-room
unfolding maps.empty
overflow_add-room c =
    let little : c.room.result ≡ 205 = c.room.ensures ∙ ap room_of_group c.new-group.ensures in
    omega arith
