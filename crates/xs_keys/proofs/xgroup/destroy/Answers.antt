use Rattle.std.proofs.Common.{◌≡◌, Some, sym, ap, ◌∙◌, refl, arith}
use Rattle.xs_keys.specs.Terms.{remove, insert}
use Rattle.xs_group.specs.GroupRoom.{room_of_group}
use Rattle.xs_keys.specs.KeysRoom.{KeyInMemory, content_of}
use Rattle.xs_keys.proofs.NamedRooms.{room-same}
use Rattle.xs_keys.proofs.KeyInPlace.{shown-none, shown-key, shown-change}
use Rattle.xs_keys.proofs.CountedKeys.{counted-group-gone, counted-key}
use Rattle.xs_keys.proofs.xgroup.destroy.Goals as goal
use Rattle.xs_keys.proofs.xgroup.destroy.Goals.{in-Some-removed, in_default}

pub invariant_of-keys : goal.invariant_of-keys
invariant_of-keys c =
    let key : KeyInMemory = record { stream = c.slot.inside.stream; groups = c.slot.inside.groups } in
    rw c.remove-removed.ensures.map (counted-group-gone c.keys.inside.slots c.keys.inside.account.held c.change.new.self.held c.keys.invariant c.change.new.self.small c.args.key.now key
    (sym c.in-Some.ensures.value ∙ ap Some (sym c.slot.view_is)) c.args.group.now c.in-Some-removed.gone (sym c.remove-removed.ensures.value ∙ c.in-Some-removed.is)
    (omega (arith, c.len.ensures, c.room.ensures, c.change.ensures.held)))

pub invariant_of-keys-in_default : goal.invariant_of-keys-in_default
invariant_of-keys-in_default c =
    let key : KeyInMemory = record { stream = c.slot.inside.stream; groups = c.slot.inside.groups } in
    let groups = c.slot.inside.groups in
    let group = c.args.group.now in
    let new : KeyInMemory = record { stream = c.slot.inside.stream; groups = remove groups group } in
    let none = room-same room_of_group groups group (sym c.remove-removed.ensures.value ∙ c.in_default.is) in
    rw c.remove-removed.ensures.map (counted-key c.keys.inside.slots c.keys.inside.account.held c.keys.inside.account.held c.keys.invariant c.keys.inside.account.small c.args.key.now key new 0 0
    (sym c.in-Some.ensures.value ∙ ap Some (sym c.slot.view_is)) (omega (arith, none)) refl)

pub returns-after-removed : goal.returns-after-removed
returns-after-removed c = λ now.
    let content = c.args.keys.now in
    let name = c.args.key.now in
    let key : KeyInMemory = record { stream = c.slot.inside.stream; groups = c.slot.inside.groups } in
    let new : KeyInMemory = record { stream = c.slot.inside.stream; groups = c.remove-removed.new.self } in
    let had = shown-key c.keys.inside.slots content c.keys.view_is name key (sym c.in-Some.ensures.value ∙ ap Some (sym c.slot.view_is)) in
    let kept : c.match-removed.keys ≡ content_of (insert c.keys.inside.slots name new) = elim c.match-removed.branch [ in-Some-removed w ↦ w.keys-is | in_default w ↦ w.keys-is ] in
    record {
      answer_is = rw (had, c.one_where.ensures, c.is_some.ensures, c.remove-removed.ensures.value) refl;
      content_is = kept ∙ shown-change c.keys.inside.slots content c.keys.view_is name new ∙ rw (had, c.remove-removed.ensures.map) refl;
    }

pub returns-in-None : goal.returns-in-None
returns-in-None c = λ now.
    let none = shown-none c.keys.inside.slots c.args.keys.now c.keys.view_is c.args.key.now (sym c.in-None.ensures.value) in
    rw c.keys.view_is (record { answer_is = rw none refl; content_is = rw none refl })
