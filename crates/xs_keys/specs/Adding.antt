-- The contracts of an addition within the code.
use Rattle.std.specs.Prelude.{◌≡◌, ℕ, true, Option, Some, None, Result, Ok, Err, is_ok}
use Rattle.std.specs.declared.alloc.AllocError.{AllocError}
use Rattle.xs_stream.specs.declared.id.Id.{Id}
use Rattle.xs_stream.specs.declared.add.AddError.{AddError}
use Rattle.xs_stream.specs.Id.{id_text, id_of_addition}
use Rattle.xs_stream.specs.StreamContent.{StreamState}
use Rattle.xs_command.specs.declared.command.AddCommand.{AddCommand}
use Rattle.xs_keys.specs.Terms.{Reply}
use Rattle.xs_keys.specs.Life.{add_entry}
use Rattle.xs_keys.specs.ContentAfter.{stream_after}
use Rattle.xs_keys.specs.ReplyParts.{assigned_reply}
use Rattle.xs_keys.specs.Event.{Bytes}

-- an addition to a stream is the model's; or memory ran out though the model refuses nothing, and nothing has changed
abbrev pub Adds : StreamState → ℕ → AddCommand → Result Reply AllocError → StreamState → Type 0
Adds old now add (Ok answer) new =
    (answer ≡ assigned_reply (id_of_addition now old.top add.id))
    × (new ≡ stream_after (add_entry now add.id add.fields add.trim) old)
Adds old now add (Err refused) new = (is_ok (id_of_addition now old.top add.id) ≡ true) × (new ≡ old)

-- the printed id, if one is assigned
abbrev pub text_of : Result Id AddError → Option Bytes
text_of (Ok id) = Some (id_text id)
text_of (Err refusal) = None
