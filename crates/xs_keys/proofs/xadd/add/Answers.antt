use Rattle.std.proofs.Common.{Some, sym, ap, ◌∙◌, refl}
use Rattle.xs_stream.specs.StreamContent.{state_of}
use Rattle.xs_keys.specs.KeysRoom.{KeyInMemory, key_state_of, content_of}
use Rattle.xs_keys.proofs.CountedKeys.{counted-stream}
use Rattle.xs_keys.proofs.KeyInPlace.{shown-none, shown-key, shown-change}
use Rattle.xs_keys.proofs.Additions.{adds_step}
use Rattle.xs_keys.proofs.xadd.add.Goals as goal

pub invariant_of-keys : goal.invariant_of-keys
invariant_of-keys c =
    let key : KeyInMemory = record { stream = c.slot.inside.stream; groups = c.slot.inside.groups } in
    counted-stream c.keys.inside.slots c.keys.inside.account.held c.add_to.new.account.held c.keys.invariant c.add_to.new.account.small c.args.add.now.key key
    (sym c.in-Some.ensures.value ∙ ap Some (sym c.slot.view_is)) c.add_to.new.stream c.add_to.ensures.counted

pub returns-in-Some : goal.returns-in-Some
returns-in-Some c =
    let content = c.args.keys.now in
    let name = c.args.add.now.key in
    let key : KeyInMemory = record { stream = c.slot.inside.stream; groups = c.slot.inside.groups } in
    let new : KeyInMemory = record { stream = c.add_to.new.stream; groups = c.slot.inside.groups } in
    let had = shown-key c.keys.inside.slots content c.keys.view_is name key (sym c.in-Some.ensures.value ∙ ap Some (sym c.slot.view_is)) in
    rw (shown-change c.keys.inside.slots content c.keys.view_is name new)
    (adds_step content c.args.now c.args.add.now c.add_to.result (key_state_of key) (state_of new.stream) had c.add_to.ensures.adds)

pub add_missing-requires-clause-missing : goal.add_missing-requires-clause-missing
add_missing-requires-clause-missing c = shown-none c.keys.inside.slots (content_of c.keys.inside.slots) refl c.args.add.now.key (sym c.in-None.ensures.value)

pub returns-in-None : goal.returns-in-None
returns-in-None c = rw (← c.keys.view_is) c.add_missing.ensures
