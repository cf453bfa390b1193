-- Additions to a key that exists, and to one that doesn't.
use Rattle.std.proofs.Common.{◌≡◌, ℕ, true, false, Some, Result, Ok, Err, is_ok, refl}
use Rattle.std.specs.declared.alloc.AllocError.{AllocError}
use Rattle.std.proofs.lemmas.Bool.{false≢true}
use Rattle.xs_command.specs.declared.command.AddCommand.{AddCommand}
use Rattle.xs_keys.specs.Terms.{get, insert, Id, AddError, id_of_addition, StreamState, Reply, Add}
use Rattle.xs_keys.specs.Content.{Content, KeyState}
use Rattle.xs_keys.specs.ReplyParts.{assigned_reply}
use Rattle.xs_keys.specs.Step.{Attempt, is_error}
use Rattle.xs_keys.specs.Adding.{Adds}
use Rattle.xs_keys.proofs.NameMaps.{insert-same}

no_error : (r : Result Id AddError) → is_ok r ≡ true → is_error (assigned_reply r) ≡ false
no_error (Ok id) e = refl
no_error (Err refusal) e = absurd (false≢true e)

-- an addition to the stream of a key that exists is an attempt
pub adds_step : (content : Content) (now : ℕ) (add : AddCommand) (result : Result Reply AllocError) (key : KeyState) (new : StreamState) → get content add.key ≡ Some key
    → Adds key.stream now add result new → Attempt content now (Add add) result (insert content add.key (record { stream = new; groups = key.groups }))
adds_step content now add (Ok answer) key new found done = record { answer_is = rw found done.0; content_is = rw (found, ← done.1) refl }
adds_step content now add (Err error) key new found refused = record {
  takes = refl;
  no_other = rw found (no_error (id_of_addition now key.stream.top add.id) refused.0);
  answer_is = refl;
  content_is = rw refused.1 (insert-same content add.key key found);
}
