use Rattle.std.proofs.Common.{◌≡◌, ◌+◌, ◌^◌, ◌%◌}
use Rattle.xs_group.specs.GroupRoom.{room_of_group}
use Rattle.xs_keys.specs.KeysRoom.{room_of_named}
use Rattle.xs_keys.proofs.keys.room_of_groups.Given as goal

-- what is counted so far and in the rest is the sum
abbrev pub invariant-loop-name : goal.invariant-loop-name
invariant-loop-name l =
    (l.room + room_of_named room_of_group l.name-iterator) % 2 ^ 128 ≡ room_of_named room_of_group l.groups.entries % 2 ^ 128
