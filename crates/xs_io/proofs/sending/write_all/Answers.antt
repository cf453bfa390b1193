use Rattle.std.proofs.Common.{◌≡◌, ◌+◌, ◌-◌, ◌≤◌, ◌++◌, ℕ, List, take, drop, length, ap, sym, ◌∙◌, arith}
use Rattle.std.proofs.lemmas.List.{take_all, length-drop}
use Rattle.std.proofs.Math.Seq.{take-append-add}
use Rattle.std.proofs.lemmas.List.{take-append-drop, length-take-le}
use Rattle.xs_io.proofs.Passing.{Appends-trans}
use Rattle.xs_io.proofs.sending.write_all.Goals as goal

take-more : (n k : ℕ) (bytes : List ℕ) → n ≤ length bytes → take n bytes ++ take k (drop n bytes) ≡ take (n + k) bytes
take-more n k bytes fits =
    let len = length-take-le n bytes fits in
    sym (take-append-add (take n bytes) (drop n bytes) k) ∙ ap (λ m. take (m + k) (take n bytes ++ drop n bytes)) len ∙ ap (take (n + k)) (take-append-drop n bytes)

pub loop-sent-preserved : goal.loop-sent-preserved
loop-sent-preserved g c =
    let bytes = c.args.bytes.now in
    let sent = c.loop-sent.sent in
    let left = length-drop sent bytes in
    let fits : length (drop sent bytes) ≤ length bytes - sent = omega arith in
    let wrote = rw (take_all (length bytes - sent) (drop sent bytes) fits) at c.in-Ok.ensures.bytes in
    let bound = rw (take_all (length bytes - sent) (drop sent bytes) fits) at c.in-Ok.ensures.bound in (
      rw (← take-more sent c.in-Ok.count bytes c.loop-sent.invariant.1) (Appends-trans _ _ _ (take sent bytes) (take c.in-Ok.count (drop sent bytes)) c.loop-sent.invariant.0 wrote),
      omega (arith, bound, c.loop-sent.invariant.1),
    )
