use Rattle.std.proofs.Common.{◌≡◌, ◌∷◌, List, ℕ, ap, ◌∙◌, arith}
use Rattle.xs_group.specs.GroupState.{GroupState}
use Rattle.xs_group.specs.GroupRoom.{room_of_group}
use Rattle.xs_keys.specs.KeysRoom.{room_of_named}
use Rattle.xs_keys.proofs.keys.room_of_groups.Goals as goal

abbrev sum : List (List ℕ × GroupState) → ℕ
sum es = room_of_named room_of_group es

pub loop-name-init : goal.loop-name-init
loop-name-init c = omega (arith, ap sum (c.into_iter-name-iterator.ensures.into_iter_gives ∙ c.iter-name-items.ensures))

pub loop-name-preserved : goal.loop-name-preserved
loop-name-preserved c =
    let steps : c.loop-name.name-iterator ≡ (c.in-Some.name.now, c.in-Some.group.now) ∷ c.next.new.self = c.in-Some.ensures.steps in
    omega (arith, ap sum steps, c.loop-name.invariant, c.room.ensures)

pub returns : goal.returns
returns c = omega (arith, ap sum c.in-None.ensures.steps.0, c.loop-name.invariant)
