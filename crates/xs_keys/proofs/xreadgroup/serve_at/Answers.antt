use Rattle.std.proofs.Common.{◌≡◌, ◌∙◌, Some, is_some, sym, ap}
use Rattle.std.proofs.lemmas.Bool.{false≢true}
use Rattle.xs_stream.proofs.PackedCodes.{on_err-holds}
use Rattle.xs_group.specs.Deliveries.{row_ids}
use Rattle.xs_keys.specs.Terms.{get, insert, GroupState}
use Rattle.xs_keys.specs.ContentAfter.{group_in}
use Rattle.xs_keys.specs.KeysRoom.{KeyInMemory, key_state_of, content_of}
use Rattle.xs_keys.proofs.ReadSteps.{served-at}
use Rattle.xs_keys.proofs.CountedKeys.{counted-group}
use Rattle.xs_keys.proofs.KeyInPlace.{shown-none, shown-key, counted-same}
use Rattle.xs_keys.proofs.ChangedGroups.{with_group_in_memory, group-put, slots-again}
use Rattle.xs_keys.proofs.xreadgroup.serve_at.Goals as goal
use Rattle.xs_keys.proofs.xreadgroup.serve_at.Goals.{After-slot}

abbrev key : After-slot → KeyInMemory
key c = record { stream = c.slot.inside.stream; groups = c.slot.inside.groups }

found : (c : After-slot) → get c.keys.inside.slots c.args.one.now.key ≡ Some (key c)
found c = sym c.in-Some.ensures.value ∙ ap Some (sym c.slot.view_is)

had : (c : After-slot) → get c.args.keys.now c.args.one.now.key ≡ Some (key_state_of (key c))
had c = shown-key c.keys.inside.slots c.args.keys.now c.keys.view_is c.args.one.now.key (key c) (found c)

pub unreachable-requires : goal.unreachable-requires
unreachable-requires c =
    let none = shown-none c.keys.inside.slots c.args.keys.now c.keys.view_is c.args.one.now.key (sym c.in_default.ensures.value) in
    false≢true (ap (λ k. is_some (group_in k c.args.read.now.group)) (sym none) ∙ c.requires)

pub invariant_of-keys-in_default-get_mut : goal.invariant_of-keys-in_default-get_mut
invariant_of-keys-in_default-get_mut c =
    let at = (goal.at.invariant_of-keys-in_default-get_mut c).After-slot in
    counted-same c.keys.inside.slots c.keys.inside.account.held c.keys.invariant c.args.one.now.key (key at) (found at)

pub unreachable-requires-in_default-get_mut : goal.unreachable-requires-in_default-get_mut
unreachable-requires-in_default-get_mut c =
    false≢true (ap is_some c.in_default-get_mut.ensures.value
    ∙ sym (ap (λ k. is_some (group_in k c.args.read.now.group)) (had (goal.at.unreachable-requires-in_default-get_mut c).After-slot))
    ∙ c.requires)

-- with a group that is as before the keys are as before
again : (c : After-slot) (was group : GroupState) → get c.slot.inside.groups c.args.read.now.group ≡ Some was → group ≡ was
    → insert c.keys.inside.slots c.args.one.now.key (with_group_in_memory (key c) c.args.read.now.group group) ≡ c.keys.inside.slots
again c was group has same = slots-again c.keys.inside.slots c.args.one.now.key c.args.read.now.group (key c) was group (found c) has same

pub invariant_of-keys-in_err-group_read : goal.invariant_of-keys-in_err-group_read
invariant_of-keys-in_err-group_read c =
    let at = (goal.at.invariant_of-keys-in_err-group_read c).After-slot in
    rw (again at c.in-Some-get_mut.group.now c.read_group.new.group (sym c.in-Some-get_mut.ensures.value) c.in_err-group_read.ensures.err) c.keys.invariant

pub returns-in_err-group_read-clause-err : goal.returns-in_err-group_read-clause-err
returns-in_err-group_read-clause-err c =
    let at = (goal.at.returns-in_err-group_read-clause-err c).After-slot in
    on_err-holds c.from_residual.result (ap content_of (again at c.in-Some-get_mut.group.now c.read_group.new.group (sym c.in-Some-get_mut.ensures.value) c.in_err-group_read.ensures.err) ∙ c.keys.view_is)

pub invariant_of-keys-in-Ok : goal.invariant_of-keys-in-Ok
invariant_of-keys-in-Ok c =
    let at = (goal.at.invariant_of-keys-in-Ok c).After-slot in
    counted-group c.keys.inside.slots c.keys.inside.account.held c.change.new.self.held c.keys.invariant c.change.new.self.small c.args.one.now.key (key at) (found at)
    c.args.read.now.group c.in-Some-get_mut.group.now c.read_group.new.group (sym c.in-Some-get_mut.ensures.value)
    (rw (c.room-before.ensures, c.room.ensures) at c.change.ensures.held)

pub returns-in-Ok-clause-ok : goal.returns-in-Ok-clause-ok
returns-in-Ok-clause-ok c =
    let at = (goal.at.returns-in-Ok-clause-ok c).After-slot in
    let delivered = c.in_ok-group_read.ensures in
    rw (group-put c.keys.inside.slots c.args.keys.now c.keys.view_is c.args.one.now.key (key at) c.args.read.now.group c.read_group.new.group)
    (served-at c.args.now c.args.read.now c.args.one.now c.args.keys.now (key_state_of (key at)) c.in-Some-get_mut.group.now c.read_group.new.group c.args.tokens.now c.push_part.new.tokens (row_ids c.in_ok-group_read.group_read.delivery.rows) _ (had at) (sym c.in-Some-get_mut.ensures.value)
    delivered.ok delivered.rows c.in-Ok.ensures delivered.made)

pub undo-requires : goal.undo-requires
undo-requires c = (c.in-Some-get_mut.group.now, c.in_ok-group_read.ensures.made)

pub invariant_of-keys-2 : goal.invariant_of-keys-2
invariant_of-keys-2 c =
    let at = (goal.at.invariant_of-keys-2 c).After-slot in
    rw (again at c.in-Some-get_mut.group.now c.undo.new.self (sym c.in-Some-get_mut.ensures.value) (c.undo.ensures c.in-Some-get_mut.group.now c.in_ok-group_read.ensures.made)) c.keys.invariant

pub returns-clause-err : goal.returns-clause-err
returns-clause-err c =
    let at = (goal.at.returns-clause-err c).After-slot in
    ap content_of (again at c.in-Some-get_mut.group.now c.undo.new.self (sym c.in-Some-get_mut.ensures.value) (c.undo.ensures c.in-Some-get_mut.group.now c.in_ok-group_read.ensures.made)) ∙ c.keys.view_is
