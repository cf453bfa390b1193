use Rattle.std.proofs.Common.{◌≡◌, ◌∙◌, Some, is_some, sym, ap}
use Rattle.std.proofs.lemmas.Bool.{false≢true}
use Rattle.xs_keys.specs.Terms.{get, insert, GroupState}
use Rattle.xs_keys.specs.ContentAfter.{group_in, with_group}
use Rattle.xs_keys.specs.KeysRoom.{KeyInMemory, key_state_of}
use Rattle.xs_keys.proofs.ReadSteps.{made-there, made-state, taken-back}
use Rattle.xs_keys.proofs.CountedKeys.{counted-group}
use Rattle.xs_keys.proofs.KeyInPlace.{shown-none, shown-key, counted-same}
use Rattle.xs_keys.proofs.ChangedGroups.{group-put}
use Rattle.xs_keys.proofs.xreadgroup.undo_at.Goals as goal
use Rattle.xs_keys.proofs.xreadgroup.undo_at.Goals.{After-slot}

abbrev key : After-slot → KeyInMemory
key c = record { stream = c.slot.inside.stream; groups = c.slot.inside.groups }

found : (c : After-slot) → get c.keys.inside.slots c.args.key.now ≡ Some (key c)
found c = sym c.in-Some.ensures.value ∙ ap Some (sym c.slot.view_is)

had : (c : After-slot) → get c.args.keys.now c.args.key.now ≡ Some (key_state_of (key c))
had c = shown-key c.keys.inside.slots c.args.keys.now c.keys.view_is c.args.key.now (key c) (found c)

pub unreachable-requires : goal.unreachable-requires
unreachable-requires c =
    let none = shown-none c.keys.inside.slots c.args.keys.now c.keys.view_is c.args.key.now (sym c.in_default.ensures.value) in
    false≢true (ap (λ k. is_some (group_in k c.args.group.now)) (sym none)
    ∙ made-there c.args.group.now c.args.key.now c.requires.0 c.args.keys.now c.args.delivery c.requires.1)

pub invariant_of-keys-in_default-get_mut : goal.invariant_of-keys-in_default-get_mut
invariant_of-keys-in_default-get_mut c =
    let at = (goal.at.invariant_of-keys-in_default-get_mut c).After-slot in
    counted-same c.keys.inside.slots c.keys.inside.account.held c.keys.invariant c.args.key.now (key at) (found at)

pub unreachable-requires-in_default-get_mut : goal.unreachable-requires-in_default-get_mut
unreachable-requires-in_default-get_mut c =
    false≢true (ap is_some c.in_default-get_mut.ensures.value
    ∙ sym (ap (λ k. is_some (group_in k c.args.group.now)) (had (goal.at.unreachable-requires-in_default-get_mut c).After-slot))
    ∙ made-there c.args.group.now c.args.key.now c.requires.0 c.args.keys.now c.args.delivery c.requires.1)

pub undo-requires : goal.undo-requires
undo-requires c =
    let at = (goal.at.undo-requires c).After-slot in
    let m = c.requires.1 in
    (m.was, made-state c.args.group.now c.args.key.now c.requires.0 c.args.keys.now c.args.delivery m (key_state_of (key at)) c.in-Some-get_mut.group.now (had at) (sym c.in-Some-get_mut.ensures.value))

pub invariant_of-keys-2 : goal.invariant_of-keys-2
invariant_of-keys-2 c =
    let at = (goal.at.invariant_of-keys-2 c).After-slot in
    counted-group c.keys.inside.slots c.keys.inside.account.held c.change.new.self.held c.keys.invariant c.change.new.self.small c.args.key.now (key at) (found at)
    c.args.group.now c.in-Some-get_mut.group.now c.undo.new.self (sym c.in-Some-get_mut.ensures.value)
    (rw (c.room-before.ensures, c.room.ensures) at c.change.ensures.held)

pub returns : goal.returns
returns c = λ before m.
    let at = (goal.at.returns c).After-slot in
    let keys = c.args.keys.now in
    let name = c.args.key.now in
    let group = c.args.group.now in
    let state = key_state_of (key at) in
    let made = made-state group name before keys c.args.delivery m state c.in-Some-get_mut.group.now (had at) (sym c.in-Some-get_mut.ensures.value) in
    group-put c.keys.inside.slots keys c.keys.view_is name (key at) group c.undo.new.self
    ∙ ap (λ (g : GroupState). insert keys name (with_group state group g)) (c.undo.ensures m.was made)
    ∙ taken-back group name before keys c.args.delivery m state (had at)
