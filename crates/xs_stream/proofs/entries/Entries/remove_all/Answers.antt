use Rattle.std.proofs.Common.{◌≡◌, ◌+◌, true, false, not, cond, filter, take, get_or, refl, sym, ap, ◌∙◌}
use Rattle.std.specs.Map.{remove_entry}
use Rattle.std.proofs.lemmas.List.{take_more}
use Rattle.xs_stream.specs.declared.id.Id.{Id}
use Rattle.xs_stream.specs.Id.{is_below, is_same_id, has_id}
use Rattle.xs_stream.specs.StreamContent.{without, ids_of, greatest}
use Rattle.xs_stream.specs.Blocks.{all_of}
use Rattle.xs_stream.proofs.InOrder.{without-none, without-more, ids_of-filter}
use Rattle.xs_stream.proofs.Greatest.{none-named, greatest-more, greater}
use Rattle.xs_stream.proofs.Order.{partial-below}
use Rattle.xs_stream.proofs.entries.Entries.remove_all.Goals as goal
use Rattle.xs_stream.proofs.entries.Entries.remove_all.Goals.{then-remove+then-lt, else-remove, else-remove-via-then-remove+else-lt}
use Rattle.xs_stream.proofs.entries.Entries.remove_all.Goals.{else-remove-via-else-remove}

pub loop-id-init : goal.loop-id-init
loop-id-init c = record {
  entries = sym (without-none (all_of c.args.self.now));
  greatest = ap (greatest c.args.other) (sym (none-named (ids_of (all_of c.args.self.now))));
  laid_down = c.requires.laid_down;
  filed_up_to_top = λ top up. up;
}

pub loop-id-preserved : goal.loop-id-preserved
loop-id-preserved c =
    let ids = c.args.ids.now in
    let all = all_of c.args.self.now in
    let next = take_more ids c.loop-id.id-index (record { ms = 0; seq = 0 }) c.loop-id-test.true in
    let done = take c.loop-id.id-index ids in
    let id : Id = get_or ids c.loop-id.id-index (record { ms = 0; seq = 0 }) in
    let before = c.loop-id.greatest in
    let there : c.remove.result ≡ has_id (filter (λ x. not (has_id done x)) (ids_of all)) id =
    c.remove.ensures.there ∙ ap (λ es. has_id (ids_of es) id) c.loop-id.invariant.entries ∙ ap (λ xs. has_id xs id) (ids_of-filter (λ x. not (has_id done x)) all) in
    let counted : cond c.remove.result (greater before id) before ≡ greatest c.args.other (filter (has_id (take (c.loop-id.id-index + 1) ids)) (ids_of all)) =
    ap (λ t. cond t (greater before id) before) there
    ∙ ap (λ g. cond (has_id (filter (λ x. not (has_id done x)) (ids_of all)) id) (greater g id) g) c.loop-id.invariant.greatest
    ∙ sym (greatest-more done id (ids_of all) c.args.other) ∙ ap (λ named. greatest c.args.other (filter (has_id named) (ids_of all))) (sym next) in
    let taken : c.if-remove.greatest ≡ cond c.remove.result (greater before id) before =
    elim c.if-remove.branch [
      | then-remove+then-lt w ↦
          let below : is_below before id ≡ true = sym (partial-below _ _) ∙ sym (w.if-lt.ensures) in
          w.greatest-is ∙ rw (w.if-remove.true, below) refl
      | else-remove w ↦
          w.greatest-is ∙ elim w.else-remove.branch [
            | else-remove-via-then-remove+else-lt w' ↦
                let below : is_below before id ≡ false = sym (partial-below _ _) ∙ sym (w'.if-lt.ensures) in
                rw (w'.if-remove.true, below) refl
            | else-remove-via-else-remove w' ↦ rw w'.if-remove.false refl
          ]
    ] in
    record {
      entries = c.remove.ensures.entries ∙ ap (remove_entry (is_same_id _)) c.loop-id.invariant.entries ∙ without-more (take c.loop-id.id-index ids) _ all c.requires.ascends
          ∙ ap (λ done. without done all) (sym next);
      greatest = taken ∙ counted;
      laid_down = c.remove.ensures.laid_down;
      filed_up_to_top = λ top up. c.remove.ensures.filed_up_to_top top (c.loop-id.invariant.filed_up_to_top top up);
    }
