use Rattle.std.proofs.Common.{◌≡◌, ℕ, subst, ◌+◌, ◌∷◌, drop, is_ok, true, ap, sym, ◌∙◌, arith}
use Rattle.std.proofs.lemmas.List.{drop_more, drop_all}
use Rattle.xs_command.specs.declared.command.Command.{Command}
use Rattle.xs_command.specs.WellFormed.{IsWellFormed}
use Rattle.xs_keys.proofs.Runs.{runs-none, runs-more, runs-all}
use Rattle.xs_keys.proofs.keyspace.Keyspace.run.Goals as goal

pub loop-event-init : goal.loop-event-init
loop-event-init c =
    let room = c.in_ok-replies.ensures in
    (rw room.items (runs-none c.args.self.now c.args.events.now), room.len, omega (arith, room.exact))

pub unwrap-requires : goal.unwrap-requires
unwrap-requires c = c.push.ensures.succeeds (omega arith)

pub loop-event-preserved : goal.loop-event-preserved
loop-event-preserved c =
    let events = c.args.events.now in
    let e = c.event-item.result in
    let rest = drop (c.loop-event.event-index + 1) events in
    let next = drop_more events c.loop-event.event-index e c.loop-event-test.true ∙ ap (λ x. x ∷ rest) (sym c.event-item.is) in
    let formed = subst (λ (x : ℕ × Command). IsWellFormed x.1) (sym c.event-item.is) (c.requires c.loop-event.event-index e c.loop-event-test.true) in
    let so_far = rw next at c.loop-event.invariant.0 in
    let ok : is_ok c.push.result ≡ true = c.push.ensures.succeeds (omega arith) in
    let items = rw ok at c.push.ensures.items in
    let len = rw ok at c.push.ensures.len in (
      rw items (runs-more c.args.self.now events c.loop-event.replies.items c.loop-event.self c.apply-reply.new.self e rest c.apply-reply.result so_far formed c.apply-reply.ensures),
      omega (arith, len),
      omega (arith, c.push.ensures.capacity),
    )

pub returns-clause-run : goal.returns-clause-run
returns-clause-run c =
    let end = drop_all c.loop-event.event-index c.args.events.now c.loop-event-test.false in
    runs-all c.args.self.now c.args.events.now c.loop-event.replies.items c.loop-event.self (rw end at c.loop-event.invariant.0)
