use Rattle.std.proofs.Common.{◌≡◌, true, arith}
use Rattle.xs_stream.specs.Id.{is_below}
use Rattle.xs_snapshot.proofs.KeysSoFar.{entry-so_far, same-so_far}
use Rattle.xs_snapshot.proofs.key_builder.KeyBuilder.put_entry.Goals as goal

pub invariant_of-self : goal.invariant_of-self
invariant_of-self c =
    let inside = c.self.inside in
    same-so_far inside.stream c.push.new.self inside.groups inside.group c.self.invariant c.in_err-push.ensures.err

pub invariant_of-self-2 : goal.invariant_of-self-2
invariant_of-self-2 c =
    let inside = c.self.inside in
    let above : is_below inside.stream.top c.args.id ≡ true = grind arith in
    entry-so_far inside.stream c.push.new.self inside.groups inside.group c.args.id c.args.fields.now c.self.invariant c.top.ensures.greatest above c.in_ok-push.ensures.ok
