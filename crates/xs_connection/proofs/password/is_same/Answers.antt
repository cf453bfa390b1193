use Rattle.std.proofs.Common.{◌&&◌, take, bytes_eq, nat_eq, slice_index_or, add-one, ap, sym, ◌∙◌, arith}
use Rattle.xs_connection.proofs.SamePasswords.{same_more}
use Rattle.xs_connection.proofs.password.is_same.Goals as goal

pub loop-place-preserved : goal.loop-place-preserved
loop-place-preserved c =
    let wanted = c.args.wanted.now in
    let given = c.args.given.now in
    let place = c.loop-place.place in
    ap (λ so_far. so_far && nat_eq (slice_index_or wanted place 0) (slice_index_or given place 0)) c.loop-place.invariant
    ∙ sym (same_more place wanted given 0 0 (omega (arith, c.if-wanted-given.false, c.loop-place-test.true)) c.loop-place-test.true)
    ∙ ap (λ n. bytes_eq (take n wanted) (take n given)) (sym (add-one place))
