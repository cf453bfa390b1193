-- The id of XADD.
use Rattle.std.specs.Prelude.{ℕ, ◌-◌, List, length, take, drop, codes, bytes_eq, Option, Some, None, Result, Ok, Err}
use Rattle.std.specs.Prelude.{if◌then◌else◌}
use Rattle.xs_stream.specs.declared.id.Id.{Id}
use Rattle.xs_stream.specs.declared.add.AddId.{AddId}
use Rattle.xs_stream.specs.declared.add.AddId.TheVariants as add
use Rattle.xs_stream.specs.Id.{is_same_id, zero_id}
use Rattle.xs_stream.specs.IdText.{id_number, parse_id}
use Rattle.xs_resp.specs.declared.fault.Fault.{Fault}
use Rattle.xs_resp.specs.declared.fault.Fault.TheVariants.{BadId, ZeroId}
use Rattle.xs_command.specs.Words.{Part, ◌>>=◌, word}

-- `ms-*`, by the number of milliseconds
abbrev pub next_in : Option ℕ → Result AddId Fault
next_in None = Err BadId
next_in (Some ms) = Ok (add.AutoSeq ms)

-- a written id
abbrev pub exact_id : Option Id → Result AddId Fault
exact_id None = Err BadId
exact_id (Some id) = if is_same_id id zero_id then Err ZeroId else Ok (add.Exact id)

-- `*`, `ms-*`, `ms-seq` or `ms`; a missing sequence is 0
abbrev pub add_id_of : List ℕ → Result AddId Fault
add_id_of text =
    if bytes_eq text (codes "*") then Ok add.Auto
    else (if bytes_eq (drop (length text - 2) text) (codes "-*") then next_in (id_number (take (length text - 2) text))
    else exact_id (parse_id text 0))

-- what a word means, or its fault
abbrev pub meaning : {A : Type 0} → Result A Fault → Part A
meaning (Ok x) words = Ok (x, words)
meaning (Err fault) words = Err fault

-- the next word, the id of an addition
unfoldable pub add_id : Part AddId
add_id = do
  w ← word
  meaning (add_id_of w)
