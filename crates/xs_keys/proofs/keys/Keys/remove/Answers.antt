use Rattle.std.proofs.Common.{sym, ap, ◌∙◌, ◌%◌, ◌^◌, refl, arith}
use Rattle.xs_bytes.specs.SortedMap.{remove}
use Rattle.xs_keys.specs.Content.{Content}
use Rattle.xs_keys.specs.KeysRoom.{content_of, room_of_key}
use Rattle.xs_keys.proofs.KeysContent.{content-remove}
use Rattle.xs_keys.proofs.NamedRooms.{room-same}
use Rattle.xs_keys.proofs.CountedKeys.{counted-gone}
use Rattle.xs_keys.proofs.keys.Keys.remove.Goals as goal

pub invariant_of-self-2 : goal.invariant_of-self-2
invariant_of-self-2 c =
    let slots = c.self.inside.slots in
    rw c.remove.ensures.map (counted-gone slots c.self.inside.account.held c.change.new.self.held c.self.invariant c.change.new.self.small c.args.key.now c.in-Some.slot _ _
    (sym c.in-Some.ensures.value) refl (omega (arith, c.len.ensures, c.room.ensures)) c.change.ensures.held)

pub invariant_of-self : goal.invariant_of-self
invariant_of-self c =
    rw c.remove.ensures.map (c.self.invariant ∙ ap (λ n. n % 2 ^ 128) (sym (room-same room_of_key c.self.inside.slots c.args.key.now (sym c.in_default.ensures.value))))

pub returns : goal.returns
returns c = ap content_of c.remove.ensures.map ∙ content-remove c.self.inside.slots c.args.key.now ∙ ap (λ (m : Content). remove m c.args.key.now) c.self.view_is

pub returns-in_default : goal.returns-in_default
returns-in_default c = ap content_of c.remove.ensures.map ∙ content-remove c.self.inside.slots c.args.key.now ∙ ap (λ (m : Content). remove m c.args.key.now) c.self.view_is
