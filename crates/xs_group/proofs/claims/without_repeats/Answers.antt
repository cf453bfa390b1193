use Rattle.xs_group.proofs.Terms.{◌≡◌, ◌+◌, Bool, true, false, cond, ◌||◌, get_or, take, sym, ap, ◌∙◌, ◌++◌, ◌∷◌, []}
use Rattle.xs_group.proofs.Terms.{Vec, Global, contains, take_more, Id, id_cmp, has_id, is_same_id-symm}
use Rattle.xs_group.proofs.Terms.{without_repeats, arith}
use Rattle.xs_group.proofs.claims.without_repeats.Goals as goal
use Rattle.xs_group.proofs.claims.without_repeats.Goals.{then-branch+in_ok-push, else-branch, Joined-branch}
use Rattle.xs_group.proofs.ChosenIds.{without_repeats-more, has-more, had}

one : (b c : Bool) → cond c true b ≡ (b || c)
one b c = grind arith

seen : (c : Joined-branch) → (q : Id) → contains id_cmp c.insert.new.self q ≡ has_id (take (c.loop-id.id-index + 1) c.args.ids.now) q
seen c q =
    let id = get_or c.args.ids.now c.loop-id.id-index (record { ms = 0; seq = 0 }) in
    let next = take_more c.args.ids.now c.loop-id.id-index (record { ms = 0; seq = 0 }) c.loop-id-test.true in
    grind (
      arith,
      c.in_ok-insert.ensures.updates.0 q,
      c.loop-id.invariant.1 q,
      is_same_id-symm id q,
      has-more (take c.loop-id.id-index c.args.ids.now) id q,
    )

pub loop-id-preserved : goal.loop-id-preserved
loop-id-preserved c =
    let done = take c.loop-id.id-index c.args.ids.now in
    let id = get_or c.args.ids.now c.loop-id.id-index (record { ms = 0; seq = 0 }) in
    let next = take_more c.args.ids.now c.loop-id.id-index (record { ms = 0; seq = 0 }) c.loop-id-test.true in
    let kept : cond (has_id done id) (without_repeats done) (without_repeats done ++ id ∷ []) ≡ without_repeats (take (c.loop-id.id-index + 1) c.args.ids.now) = sym (without_repeats-more done id) ∙ ap without_repeats (sym next) in
    elim c.if-branch.branch [
      | then-branch+in_ok-push w ↦ (
        ap (λ (v : Vec Id Global). v.items) w.kept-is ∙ w.in_ok-push.ensures.items ∙ ap (λ ids. ids ++ id ∷ []) c.loop-id.invariant.0
            ∙ ap (λ b. cond b (without_repeats done) (without_repeats done ++ id ∷ [])) (sym (had _ _ _ true c.in_ok-insert.ensures.added w.if-branch.true (c.loop-id.invariant.1 id))) ∙ kept,
        seen c,
      )
      | else-branch w ↦ (
        ap (λ (v : Vec Id Global). v.items) w.kept-is ∙ c.loop-id.invariant.0
            ∙ ap (λ b. cond b (without_repeats done) (without_repeats done ++ id ∷ [])) (sym (had _ _ _ false c.in_ok-insert.ensures.added w.if-branch.false (c.loop-id.invariant.1 id))) ∙ kept,
        seen c,
      )
    ]
