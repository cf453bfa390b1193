use Rattle.std.proofs.Common.{◌≡◌, Some, None, sym, ap, ◌∙◌, refl, length, arith}
use Rattle.xs_keys.specs.Terms.{get, insert, StreamState, Int}
use Rattle.xs_keys.specs.Content.{Content}
use Rattle.xs_keys.specs.KeysRoom.{KeyInMemory, key_state_of, state_in}
use Rattle.xs_keys.proofs.KeysContent.{get-content, content-insert}
use Rattle.xs_keys.proofs.CountedKeys.{counted-stream}
use Rattle.xs_keys.proofs.xtrim.trim.Goals as goal

pub invariant_of-keys : goal.invariant_of-keys
invariant_of-keys c =
    let key : KeyInMemory = record { stream = c.slot.inside.stream; groups = c.slot.inside.groups } in
    counted-stream c.keys.inside.slots c.keys.inside.account.held c.change.new.self.held c.keys.invariant c.change.new.self.small c.args.key.now key
    (sym c.in-Some.ensures.value ∙ ap Some (sym c.slot.view_is)) c.trim-count.new.self
    (rw (c.room-before.ensures.value, c.room.ensures.value) at c.change.ensures.held)

pub returns-in-Some : goal.returns-in-Some
returns-in-Some c = λ now.
    let slots = c.keys.inside.slots in
    let name = c.args.key.now in
    let key : KeyInMemory = record { stream = c.slot.inside.stream; groups = c.slot.inside.groups } in
    let new : KeyInMemory = record { stream = c.trim-count.new.self; groups = c.slot.inside.groups } in
    let kept = c.trim-count.ensures.entries in
    let had : get c.args.keys.now name ≡ Some (key_state_of key) =
    ap (λ (m : Content). get m name) (sym c.keys.view_is) ∙ get-content slots name ∙ ap state_in (sym c.in-Some.ensures.value ∙ ap Some (sym c.slot.view_is)) in
    record {
      answer_is = rw (had, c.new.ensures) (ap Int (omega (arith, c.trim-count.ensures.count, ap (λ (s : StreamState). length s.entries) kept)));
      content_is = content-insert slots name new ∙ ap (λ (m : Content). insert m name (key_state_of new)) c.keys.view_is
          ∙ rw had (ap (λ (s : StreamState). insert c.args.keys.now name (record { stream = s; groups = key.groups })) kept);
    }

pub returns-in-None : goal.returns-in-None
returns-in-None c = λ now.
    let none : get c.args.keys.now c.args.key.now ≡ None =
    ap (λ (m : Content). get m c.args.key.now) (sym c.keys.view_is) ∙ get-content c.keys.inside.slots c.args.key.now ∙ ap state_in (sym c.in-None.ensures.value) in
    rw c.keys.view_is (record { answer_is = rw (none, c.new-in-None.ensures) refl; content_is = rw none refl })
