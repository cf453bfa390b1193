use Rattle.std.proofs.Common.{subst, ◌≡◌, ◌<◌, ◌∷◌, ◌++◌, [], length, get_or, arith, rules}
use Rattle.xs_command.specs.declared.command.ReadOne.{ReadOne}
use Rattle.xs_keys.specs.Content.{Content}
use Rattle.xs_keys.specs.Reading.{AreMade, IsMadeAt}
use Rattle.xs_keys.proofs.ReadSteps.{made-pop, made-shorter, Split}
use Rattle.xs_keys.proofs.xreadgroup.undo_all.Goals as goal
use Rattle.xs_keys.proofs.xreadgroup.undo_all.Goals.{After-len, After-index-reads-len}

chain : (c : After-len) (first : Content) → AreMade c.args.group.now c.args.reads.now c.args.deliveries.items first c.args.keys.now
    → AreMade c.args.group.now c.args.reads.now (c.pop.new.self.items ++ c.in-Some.delivery ∷ []) first c.loop-delivery.keys
chain c first all = rw c.in-Some.ensures.items at (c.loop-delivery.invariant first all)

within : (c : After-len) → c.len.result < length c.args.reads.now
within c =
    let fewer = made-shorter c.args.group.now c.args.reads.now c.pop.new.self.items c.requires.0 c.loop-delivery.keys c.in-Some.delivery (chain c c.requires.0 c.requires.1) in
    omega (arith, fewer, c.pop.new.self.ok.0)

split : (c : After-index-reads-len) (first : Content) → AreMade c.args.group.now c.args.reads.now c.args.deliveries.items first c.args.keys.now
    → Split c.args.group.now c.args.reads.now c.pop.new.self.items first c.loop-delivery.keys c.index-reads-len.result c.in-Some.delivery
split c first all =
    let count : c.len.result ≡ length c.pop.new.self.items = omega (arith, c.pop.new.self.ok.0) in
    made-pop c.args.group.now c.args.reads.now c.pop.new.self.items first c.loop-delivery.keys c.index-reads-len.result c.in-Some.delivery
    (rw c.in-Some.ensures.items at (c.loop-delivery.invariant first all)) (rw count at c.index-reads-len.is)

made : (c : After-index-reads-len) (first : Content) (s : Split c.args.group.now c.args.reads.now c.pop.new.self.items first c.loop-delivery.keys c.index-reads-len.result c.in-Some.delivery)
    → IsMadeAt c.args.group.now (get_or c.args.reads.now c.len.result c.index-reads-len.result).key s.middle c.loop-delivery.keys c.in-Some.delivery
made c first s = subst (λ (r : ReadOne). IsMadeAt c.args.group.now r.key s.middle c.loop-delivery.keys c.in-Some.delivery) c.index-reads-len.is s.made

pub bounds-reads-len : goal.bounds-reads-len
bounds-reads-len c = within (goal.at.bounds-reads-len c).After-len

pub offset_bounds-reads-len : goal.offset_bounds-reads-len
offset_bounds-reads-len c = let lt = within (goal.at.offset_bounds-reads-len c).After-len in search rules

pub undo_at-requires : goal.undo_at-requires
undo_at-requires c =
    let at = (goal.at.undo_at-requires c).After-index-reads-len in
    let s = split at c.requires.0 c.requires.1 in
    (s.middle, made at c.requires.0 s)

pub loop-delivery-preserved : goal.loop-delivery-preserved
loop-delivery-preserved c = λ first all.
    let at = (goal.at.loop-delivery-preserved c).After-index-reads-len in
    let s = split at first all in
    rw (c.undo_at.ensures s.middle (made at first s)) s.before
