use Rattle.std.proofs.Common.{◌≡◌, ◌∷◌, List, ℕ, ap, sym, subst, ◌∙◌}
use Rattle.std.specs.List.{AllByRecursion, flat_map}
use Rattle.xs_keys.specs.Content.{KeyState}
use Rattle.xs_keys.specs.KeysRoom.{key_state_of}
use Rattle.xs_log.specs.declared.snapshot_output.WriteFault.TheVariants.{TooLong}
use Rattle.xs_replay.specs.Pieces.{pieces_of_key, pieces_of}
use Rattle.xs_snapshot.specs.Restorable.{IsRestorableKey}
use Rattle.xs_snapshot.proofs.Putting.{IsHalfway, pieces_of_keys, AreRestorableKeys, states_of, at_start, further, next_can, given_on}
use Rattle.xs_snapshot.proofs.writing.put_keys.Goals as goal

pub loop-name-init : goal.loop-name-init
loop-name-init g c =
    let all : states_of c.into_iter-name-iterator.result ≡ c.args.keyspace.now.entries = ap states_of c.into_iter-name-iterator.ensures.into_iter_gives ∙ c.iter-name-items.ensures in
    record {
      half = at_start c.args.writer.now (pieces_of c.args.keyspace.now) (pieces_of_keys c.into_iter-name-iterator.result) c.requires (ap (flat_map pieces_of_key) all);
      restorable = subst (λ (es : List (List ℕ × KeyState)). AllByRecursion (λ e. IsRestorableKey e.1) es) all;
    }

pub loop-name-preserved : goal.loop-name-preserved
loop-name-preserved g c =
    let all = pieces_of c.args.keyspace.now in
    let steps : c.loop-name.name-iterator ≡ (c.in-Some.name.now, c.in-Some.slot.now) ∷ c.next.new.self = c.in-Some.ensures.steps in
    record {
      half = further c.args.writer.now c.loop-name.writer c.put_key.new.writer all (pieces_of_key (c.in-Some.name.now, key_state_of c.in-Some.slot.now)) (pieces_of_keys c.next.new.self)
          (subst (λ es. IsHalfway c.args.writer.now c.loop-name.writer all (pieces_of_keys es)) steps c.loop-name.invariant.half) c.in_ok-put_key.ensures.more;
      restorable = λ rest. c.loop-name.invariant.restorable (subst AreRestorableKeys (sym steps) (c.in_ok-put_key.ensures.restorable, rest));
    }

pub returns-in_err-put_key-clause-long : goal.returns-in_err-put_key-clause-long
returns-in_err-put_key-clause-long g c = λ e can.
    let all = pieces_of c.args.keyspace.now in
    let steps : c.loop-name.name-iterator ≡ (c.in-Some.name.now, c.in-Some.slot.now) ∷ c.next.new.self = c.in-Some.ensures.steps in
    c.put_key.ensures.long (given_on c.put_key.result c.from_residual.result c.in_err-put_key.field-0.0 TooLong c.in_err-put_key.was c.from_residual.ensures.1 e)
    (next_can c.args.writer.now c.loop-name.writer all (pieces_of_key (c.in-Some.name.now, key_state_of c.in-Some.slot.now)) (pieces_of_keys c.next.new.self)
    (subst (λ es. IsHalfway c.args.writer.now c.loop-name.writer all (pieces_of_keys es)) steps c.loop-name.invariant.half) can)

pub returns-clause-restorable : goal.returns-clause-restorable
returns-clause-restorable g c = c.loop-name.invariant.restorable (subst AreRestorableKeys (sym c.in-None.ensures.steps.0) tt)
