use Rattle.std.proofs.Common.{rules, true, false, ◌≡◌, [], ◌++◌, length, take, drop, sym, ap, ◌∙◌, refl, append_assoc, arith, length-append, length-drop}
use Rattle.std.proofs.lemmas.List.{append-nil, take-append-drop}
use Rattle.xs_io.proofs.Passing.{Appends-nil, Appends-trans}
use Rattle.xs_resp.specs.LeftToWrite.{bytes_left}
use Rattle.xs_session.proofs.Tests.{empty-none, empty-some}
use Rattle.xs_work.proofs.AheadSteps.{part-sent}
use Rattle.xs_work.proofs.ahead.send_unsent.Goals as goal

pub pieces-init : goal.pieces-init
pieces-init g c = record {
  went = [];
  appends = Appends-nil _;
  after = λ manner read asked got sent s. rw (append-nil sent) s;
  owed = refl;
  places = refl;
  ended = refl;
  held = refl;
}

pub pieces-preserved : goal.pieces-preserved
pieces-preserved g c =
    let inv = c.pieces.invariant in
    let piece = c.pieces.session.owed.piece in
    let wrote = rw (c.output-in-pieces.ensures.value) at c.in-Ok.ensures.ok in
    record {
      went = inv.went ++ piece;
      appends = Appends-trans _ _ _ inv.went piece inv.appends wrote.1;
      after = λ manner read asked got sent s. rw (← append_assoc) (c.mark_sent.ensures.after manner read asked got (sent ++ inv.went) (inv.after manner read asked got sent s));
      owed = inv.owed ∙ ap (λ o. inv.went ++ (piece ++ o)) (sym c.mark_sent.ensures.owed) ∙ sym (append_assoc inv.went piece (bytes_left c.mark_sent.new.self.owed));
      places = c.mark_sent.ensures.places ∙ inv.places;
      ended = c.mark_sent.ensures.ended ∙ inv.ended;
      held = c.mark_sent.ensures.held ∙ inv.held;
    }

pub pieces-smaller : goal.pieces-smaller
pieces-smaller g c =
    let owed = c.pieces.session.owed in
    let empty : c.is_empty.result ≡ false = search rules in
    let some = empty-some c.output.result.now c.is_empty.result c.is_empty.ensures empty in
    omega (arith, some, ap length c.output.ensures.value, ap length c.mark_sent.ensures.owed, length-append owed.piece owed.behind)

pub returns-in-Err-clause-sends : goal.returns-in-Err-clause-sends
returns-in-Err-clause-sends g c = λ manner read asked got sent s.
    let inv = c.pieces.invariant in
    let session = c.pieces.session in
    let err = rw (c.output-in-pieces.ensures.value) at c.in-Err.ensures.err in (
      inv.went ++ take c.in-Err.field-0 session.owed.piece,
      Appends-trans _ _ _ inv.went _ inv.appends err.1,
      part-sent manner read asked got sent inv.went session c.in-Err.field-0 err.0 (inv.after manner read asked got sent s),
    )

pub returns-clause-sends : goal.returns-clause-sends
returns-clause-sends g c = λ manner read asked got sent s.
    let inv = c.pieces.invariant in
    (inv.went, inv.appends, inv.after manner read asked got sent s)

pub returns-in-Err-clause-exact : goal.returns-in-Err-clause-exact
returns-in-Err-clause-exact g c =
    let inv = c.pieces.invariant in
    let owed = c.pieces.session.owed in
    let count = c.in-Err.field-0 in
    let err = rw (c.output-in-pieces.ensures.value) at c.in-Err.ensures.err in
    let part = take count owed.piece in
    let rest = drop count owed.piece ++ owed.behind in
    let split = ap (λ p. p ++ owed.behind) (sym (take-append-drop count owed.piece)) ∙ append_assoc part (drop count owed.piece) owed.behind in (
      inv.went ++ part,
      Appends-trans _ _ _ inv.went part inv.appends err.1,
      (rest, inv.owed ∙ ap (λ o. inv.went ++ o) split ∙ sym (append_assoc inv.went part rest), omega (arith, err.0, length-drop count owed.piece, length-append (drop count owed.piece) owed.behind)),
    )

pub returns-clause-exact : goal.returns-clause-exact
returns-clause-exact g c =
    let inv = c.pieces.invariant in
    let owed = c.pieces.session.owed in
    let empty : c.is_empty.result ≡ true = search rules in
    let none = c.output.ensures.all (empty-none c.output.result.now c.is_empty.result c.is_empty.ensures empty) in
    (inv.went, inv.appends, sym (inv.owed ∙ ap (λ o. inv.went ++ o) none ∙ append-nil inv.went))
