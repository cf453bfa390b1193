use Rattle.std.proofs.Common.{◌≡◌, Option, Some, None, is_some, sym, ap, ◌∙◌, refl, arith}
use Rattle.std.proofs.lemmas.Bool.{false≢true}
use Rattle.xs_bytes.specs.SortedMap.{insert, get}
use Rattle.xs_keys.specs.Content.{Content}
use Rattle.xs_keys.specs.KeysRoom.{KeyInMemory, content_of, key_state_of, state_in}
use Rattle.xs_keys.proofs.KeysContent.{content-insert, get-content}
use Rattle.xs_keys.proofs.CountedKeys.{counted-new}
use Rattle.xs_keys.proofs.keys.Keys.insert.Goals as goal

state-none : (key : Option KeyInMemory) → state_in key ≡ None → key ≡ None
state-none None is = refl
state-none (Some key) is = absurd (false≢true (sym (ap is_some is)))

pub invariant_of-self : goal.invariant_of-self
invariant_of-self c =
    let slots = c.self.inside.slots in
    let none : get slots c.args.key ≡ None =
    state-none (get slots c.args.key) (sym (get-content slots c.args.key) ∙ ap (λ (m : Content). get m c.args.key) c.self.view_is ∙ c.requires) in
    rw c.in-Ok.ensures.ok (counted-new slots c.self.inside.account.held c.change.new.self.held c.self.invariant c.change.new.self.small c.args.key c.args.slot _ _ none refl
    (omega (arith, c.len.ensures, c.room.ensures)) c.change.ensures.held)

pub returns-in-Ok-clause-ok : goal.returns-in-Ok-clause-ok
returns-in-Ok-clause-ok c = ap content_of c.in-Ok.ensures.ok ∙ content-insert c.self.inside.slots c.args.key c.args.slot ∙ ap (λ (m : Content). insert m c.args.key (key_state_of c.args.slot)) c.self.view_is
