use Rattle.std.proofs.Common.{◌≡◌, ℕ, true, sym, Result, Ok, Err, IfOk}
use Rattle.xs_stream.specs.declared.id.Id.{Id}
use Rattle.xs_stream.specs.declared.add.AddId.{AddId}
use Rattle.xs_stream.specs.declared.add.AddError.{AddError}
use Rattle.xs_stream.specs.Id.{is_below, id_of_addition}
use Rattle.xs_stream.proofs.Assigning.{assigned-above}
use Rattle.xs_stream.proofs.stream.Stream.assign.Goals as goal

if_ok-above : (now : ℕ) (top : Id) (add : AddId) (r : Result Id AddError) → r ≡ id_of_addition now top add → IfOk r (λ given. is_below top given ≡ true)
if_ok-above now top add (Ok given) e = assigned-above now top add given (sym e)
if_ok-above now top add (Err error) e = tt

pub returns-clause-above : goal.returns-clause-above
returns-clause-above c = rw (← c.self.view_is) (if_ok-above c.args.now c.self.inside.top c.args.id c.assigned_id.result c.assigned_id.ensures)
