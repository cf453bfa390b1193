use Rattle.std.proofs.Common.{Some, sym, ap, ◌∙◌, refl, arith}
use Rattle.xs_group.specs.GroupRoom.{room_of_group}
use Rattle.xs_keys.specs.KeysRoom.{KeyInMemory, key_state_of, content_of, room_of_named}
use Rattle.xs_keys.proofs.CountedKeys.{counted-key}
use Rattle.xs_keys.proofs.KeyInPlace.{shown-none, shown-key, shown-change}
use Rattle.xs_keys.proofs.GroupMaking.{creates_step}
use Rattle.xs_keys.proofs.xgroup.create.Goals as goal

pub invariant_of-keys : goal.invariant_of-keys
invariant_of-keys c =
    let key : KeyInMemory = record { stream = c.slot.inside.stream; groups = c.slot.inside.groups } in
    let new : KeyInMemory = record { stream = c.slot.inside.stream; groups = c.create_in.new.groups } in
    counted-key c.keys.inside.slots c.keys.inside.account.held c.create_in.new.account.held c.keys.invariant c.create_in.new.account.small c.args.command.now.key key new
    (room_of_named room_of_group key.groups.entries) (room_of_named room_of_group new.groups.entries) (sym c.in-Some.ensures.value ∙ ap Some (sym c.slot.view_is))
    (omega arith) c.create_in.ensures.counted

pub returns-in-Some : goal.returns-in-Some
returns-in-Some c = λ now.
    let content = c.args.keys.now in
    let name = c.args.command.now.key in
    let key : KeyInMemory = record { stream = c.slot.inside.stream; groups = c.slot.inside.groups } in
    let new : KeyInMemory = record { stream = c.slot.inside.stream; groups = c.create_in.new.groups } in
    let had = shown-key c.keys.inside.slots content c.keys.view_is name key (sym c.in-Some.ensures.value ∙ ap Some (sym c.slot.view_is)) in
    rw (shown-change c.keys.inside.slots content c.keys.view_is name new)
    (creates_step content now c.args.command.now c.create_in.result (key_state_of key) new.groups had (rw c.top-top.ensures.value at c.create_in.ensures.creates))

pub create_missing-requires : goal.create_missing-requires
create_missing-requires c = shown-none c.keys.inside.slots (content_of c.keys.inside.slots) refl c.args.command.now.key (sym c.in-None.ensures.value)

pub returns-in-None : goal.returns-in-None
returns-in-None c = rw (← c.keys.view_is) c.create_missing.ensures
