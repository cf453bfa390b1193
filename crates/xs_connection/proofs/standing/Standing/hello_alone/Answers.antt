use Rattle.std.proofs.Common.{◌≡◌, ℕ, List, Result, Ok, Err, ap}
use Rattle.std.specs.Prelude.{IfOk}
use Rattle.std.specs.declared.alloc.AllocError.{AllocError}
use Rattle.xs_resp.specs.declared.reply.Reply.{Reply}
use Rattle.xs_resp.specs.declared.reply.Reply.TheVariants.{ErrorText}
use Rattle.xs_connection.specs.declared.standing.Standing.{Standing}
use Rattle.xs_connection.specs.Standing.{no_hello}
use Rattle.xs_connection.proofs.standing.Standing.hello_alone.Goals as goal

beside : (result : Result Reply AllocError) (text : List ℕ) (standing : Standing) → IfOk result (λ reply. reply ≡ ErrorText text) → IfOk result (λ reply. ◌≡◌ {A = Reply × Standing} (reply, standing) (ErrorText text, standing))
beside (Ok reply) text standing is = ap (λ (r : Reply). (r, standing)) is
beside (Err error) text standing is = tt

pub returns-then-not-self-clause-ok : goal.returns-then-not-self-clause-ok
returns-then-not-self-clause-ok c = rw c.if-not-self.true (beside c.error.result no_hello _ c.error.ensures)
