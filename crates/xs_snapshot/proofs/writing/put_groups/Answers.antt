use Rattle.std.proofs.Common.{◌≡◌, ◌∷◌, ap, sym, subst, ◌∙◌}
use Rattle.xs_log.specs.declared.snapshot_output.WriteFault.TheVariants.{TooLong}
use Rattle.xs_replay.specs.Pieces.{pieces_of_group}
use Rattle.xs_snapshot.specs.Restorable.{AreRestorableGroups}
use Rattle.xs_snapshot.specs.Writing.{pieces_of_groups}
use Rattle.xs_snapshot.proofs.Putting.{IsHalfway, at_start, further, next_can, given_on}
use Rattle.xs_snapshot.proofs.KeptRestorable.{group-restorable}
use Rattle.xs_snapshot.proofs.writing.put_groups.Goals as goal

pub loop-name-init : goal.loop-name-init
loop-name-init g c =
    let all : c.into_iter-name-iterator.result ≡ c.args.groups.now.entries = c.into_iter-name-iterator.ensures.into_iter_gives ∙ c.iter-name-items.ensures in
    record {
      half = at_start c.args.writer.now (pieces_of_groups c.args.groups.now.entries) (pieces_of_groups c.into_iter-name-iterator.result) c.requires (ap pieces_of_groups all);
      restorable = subst AreRestorableGroups all;
    }

pub loop-name-preserved : goal.loop-name-preserved
loop-name-preserved g c =
    let all = pieces_of_groups c.args.groups.now.entries in
    let steps : c.loop-name.name-iterator ≡ (c.in-Some.name.now, c.in-Some.group.now) ∷ c.next.new.self = c.in-Some.ensures.steps in
    record {
      half = further c.args.writer.now c.loop-name.writer c.put_group.new.writer all (pieces_of_group (c.in-Some.name.now, c.in-Some.group.now)) (pieces_of_groups c.next.new.self)
          (subst (λ es. IsHalfway c.args.writer.now c.loop-name.writer all (pieces_of_groups es)) steps c.loop-name.invariant.half) c.in_ok-put_group.ensures.more;
      restorable = λ rest. c.loop-name.invariant.restorable (subst AreRestorableGroups (sym steps) (group-restorable c.in-Some.group.now c.in_ok-put_group.ensures.restorable, rest));
    }

pub returns-in_err-put_group-clause-long : goal.returns-in_err-put_group-clause-long
returns-in_err-put_group-clause-long g c = λ e can.
    let all = pieces_of_groups c.args.groups.now.entries in
    let steps : c.loop-name.name-iterator ≡ (c.in-Some.name.now, c.in-Some.group.now) ∷ c.next.new.self = c.in-Some.ensures.steps in
    c.put_group.ensures.long (given_on c.put_group.result c.from_residual.result c.in_err-put_group.field-0.0 TooLong c.in_err-put_group.was c.from_residual.ensures.1 e)
    (next_can c.args.writer.now c.loop-name.writer all (pieces_of_group (c.in-Some.name.now, c.in-Some.group.now)) (pieces_of_groups c.next.new.self)
    (subst (λ es. IsHalfway c.args.writer.now c.loop-name.writer all (pieces_of_groups es)) steps c.loop-name.invariant.half) can)

pub returns-clause-restorable : goal.returns-clause-restorable
returns-clause-restorable g c = c.loop-name.invariant.restorable (subst AreRestorableGroups (sym c.in-None.ensures.steps.0) tt)
