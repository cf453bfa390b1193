use Rattle.std.proofs.Common.{Some, sym, ap, ◌∙◌, refl, of_calls}
use Rattle.xs_keys.specs.Terms.{insert}
use Rattle.xs_keys.specs.KeysRoom.{KeyInMemory}
use Rattle.xs_keys.proofs.CountedKeys.{counted-group}
use Rattle.xs_keys.proofs.KeyInPlace.{shown-none, shown-key, shown-change, shown-same, counted-same}
use Rattle.xs_keys.proofs.group_change.change_group.Goals as goal

pub change-outcome-requires : goal.change-outcome-requires
change-outcome-requires g c = search of_calls parts 8

pub returns-in_default-clause-missing : goal.returns-in_default-clause-missing
returns-in_default-clause-missing g c =
    let none = shown-none c.keys.inside.slots c.args.keys.now c.keys.view_is c.args.key.now (sym c.in_default.ensures.value) in
    rw none refl

pub returns-in_default-clause-fault : goal.returns-in_default-clause-fault
returns-in_default-clause-fault g c =
    let none = shown-none c.keys.inside.slots c.args.keys.now c.keys.view_is c.args.key.now (sym c.in_default.ensures.value) in
    rw none refl

pub invariant_of-keys-in_default-get_mut : goal.invariant_of-keys-in_default-get_mut
invariant_of-keys-in_default-get_mut g c =
    let key : KeyInMemory = record { stream = c.slot.inside.stream; groups = c.slot.inside.groups } in
    counted-same c.keys.inside.slots c.keys.inside.account.held c.keys.invariant c.args.key.now key (sym c.in-Some.ensures.value ∙ ap Some (sym c.slot.view_is))

pub returns-in_default-get_mut-clause-missing : goal.returns-in_default-get_mut-clause-missing
returns-in_default-get_mut-clause-missing g c =
    let key : KeyInMemory = record { stream = c.slot.inside.stream; groups = c.slot.inside.groups } in
    let had = shown-key c.keys.inside.slots c.args.keys.now c.keys.view_is c.args.key.now key (sym c.in-Some.ensures.value ∙ ap Some (sym c.slot.view_is)) in
    rw had (sym c.in_default-get_mut.ensures.value)

pub returns-in_default-get_mut-clause-fault : goal.returns-in_default-get_mut-clause-fault
returns-in_default-get_mut-clause-fault g c =
    let key : KeyInMemory = record { stream = c.slot.inside.stream; groups = c.slot.inside.groups } in
    let had = shown-key c.keys.inside.slots c.args.keys.now c.keys.view_is c.args.key.now key (sym c.in-Some.ensures.value ∙ ap Some (sym c.slot.view_is)) in
    rw had refl

pub returns-in_default-get_mut-clause-err : goal.returns-in_default-get_mut-clause-err
returns-in_default-get_mut-clause-err g c =
    let key : KeyInMemory = record { stream = c.slot.inside.stream; groups = c.slot.inside.groups } in
    shown-same c.keys.inside.slots c.args.keys.now c.keys.view_is c.args.key.now key (sym c.in-Some.ensures.value ∙ ap Some (sym c.slot.view_is))

pub invariant_of-keys-2 : goal.invariant_of-keys-2
invariant_of-keys-2 g c =
    let key : KeyInMemory = record { stream = c.slot.inside.stream; groups = c.slot.inside.groups } in
    counted-group c.keys.inside.slots c.keys.inside.account.held c.change.new.self.held c.keys.invariant c.change.new.self.small c.args.key.now key
    (sym c.in-Some.ensures.value ∙ ap Some (sym c.slot.view_is)) c.args.name.now c.in-Some-get_mut.group.now c.change-outcome.new.arg2 (sym c.in-Some-get_mut.ensures.value)
    (rw (c.room-before.ensures, c.room.ensures) at c.change.ensures.held)

pub returns : goal.returns
returns g c =
    let key : KeyInMemory = record { stream = c.slot.inside.stream; groups = c.slot.inside.groups } in
    let new : KeyInMemory = record { stream = c.slot.inside.stream; groups = insert c.slot.inside.groups c.args.name.now c.change-outcome.new.arg2 } in
    record {
      missing = tt;
      fault = tt;
      err = tt;
      ok = record {
        group = _;
        stream = _;
        groups = c.slot.inside.groups;
        left = _;
        found = shown-key c.keys.inside.slots c.args.keys.now c.keys.view_is c.args.key.now key (sym c.in-Some.ensures.value ∙ ap Some (sym c.slot.view_is));
        has = sym c.in-Some-get_mut.ensures.value;
        met = c.change-outcome.ensures;
        content_is = shown-change c.keys.inside.slots c.args.keys.now c.keys.view_is c.args.key.now new;
      };
    }
