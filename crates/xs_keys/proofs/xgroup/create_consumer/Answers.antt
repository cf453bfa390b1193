use Rattle.std.proofs.Common.{◌≡◌, Some, None, sym, ap, ◌∙◌, refl}
use Rattle.xs_keys.specs.Terms.{get, insert}
use Rattle.xs_keys.specs.KeysRoom.{KeyInMemory, key_state_of}
use Rattle.xs_keys.proofs.KeyInPlace.{shown-none, shown-key, shown-change, shown-same, counted-same}
use Rattle.xs_keys.proofs.CountedKeys.{counted-group}
use Rattle.xs_keys.proofs.ConsumerMaking.{makes-consumer, refuses-consumer}
use Rattle.xs_keys.proofs.xgroup.create_consumer.Goals as goal
use Rattle.xs_keys.proofs.xgroup.create_consumer.Goals.{in-Ok, in-Err}

pub returns-in_default : goal.returns-in_default
returns-in_default c =
    let none = shown-none c.keys.inside.slots c.args.keys.now c.keys.view_is c.args.key.now (sym c.in_default.ensures.value) in
    rw c.keys.view_is (record { answer_is = rw none refl; content_is = rw none refl })

pub invariant_of-keys-in_default-get_mut : goal.invariant_of-keys-in_default-get_mut
invariant_of-keys-in_default-get_mut c =
    let key : KeyInMemory = record { stream = c.slot.inside.stream; groups = c.slot.inside.groups } in
    counted-same c.keys.inside.slots c.keys.inside.account.held c.keys.invariant c.args.key.now key (sym c.in-Some.ensures.value ∙ ap Some (sym c.slot.view_is))

pub returns-in_default-get_mut : goal.returns-in_default-get_mut
returns-in_default-get_mut c =
    let key : KeyInMemory = record { stream = c.slot.inside.stream; groups = c.slot.inside.groups } in
    let found = sym c.in-Some.ensures.value ∙ ap Some (sym c.slot.view_is) in
    let had = shown-key c.keys.inside.slots c.args.keys.now c.keys.view_is c.args.key.now key found in
    let none : get key.groups c.args.group.now ≡ None = sym c.in_default-get_mut.ensures.value in
    record {
      answer_is = rw (had, none) refl;
      content_is = shown-same c.keys.inside.slots c.args.keys.now c.keys.view_is c.args.key.now key found ∙ rw (had, none) refl;
    }

pub invariant_of-keys-2 : goal.invariant_of-keys-2
invariant_of-keys-2 c =
    let key : KeyInMemory = record { stream = c.slot.inside.stream; groups = c.slot.inside.groups } in
    counted-group c.keys.inside.slots c.keys.inside.account.held c.change.new.self.held c.keys.invariant c.change.new.self.small c.args.key.now key
    (sym c.in-Some.ensures.value ∙ ap Some (sym c.slot.view_is)) c.args.group.now c.in-Some-get_mut.group.now c.add_consumer-added.new.group (sym c.in-Some-get_mut.ensures.value)
    (rw (c.room-before.ensures, c.room.ensures) at c.change.ensures.held)

pub returns : goal.returns
returns c =
    let content = c.args.keys.now in
    let name = c.args.key.now in
    let key : KeyInMemory = record { stream = c.slot.inside.stream; groups = c.slot.inside.groups } in
    let was = c.in-Some-get_mut.group.now in
    let after = c.add_consumer-added.new.group in
    let new : KeyInMemory = record { stream = c.slot.inside.stream; groups = insert c.slot.inside.groups c.args.group.now after } in
    let had = shown-key c.keys.inside.slots content c.keys.view_is name key (sym c.in-Some.ensures.value ∙ ap Some (sym c.slot.view_is)) in
    let there : get key.groups c.args.group.now ≡ Some was = sym c.in-Some-get_mut.ensures.value in
    rw (shown-change c.keys.inside.slots content c.keys.view_is name new)
    (elim c.match-added.branch [
      | in-Ok w ↦ rw (w.result-is, w.one_where.ensures) (makes-consumer content c.args.now name c.args.group.now c.args.consumer.now (key_state_of key) was after had there w.in-Ok.made w.in-Ok.ensures.made w.in-Ok.ensures.ok)
      | in-Err w ↦ rw w.result-is (refuses-consumer content c.args.now name c.args.group.now c.args.consumer.now (key_state_of key) was after had there _ w.in-Err.ensures.err)
    ])
