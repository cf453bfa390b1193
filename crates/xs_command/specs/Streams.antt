-- The streams of XREADGROUP: keys, and the start of the read of each.
use Rattle.std.specs.Prelude.{ℕ, ◌/◌, ◌%◌, ◌&&◌, ◌==◌, not, Bool, true, List, [], ◌∷◌, length, take, drop, nat_lt}
use Rattle.std.specs.Prelude.{bytes_eq, codes, Option, Some, Result, Ok, Err, if◌then◌else◌}
use Rattle.std.specs.List.{list_any}
use Rattle.std.specs.Option.{option_map}
use Rattle.xs_stream.specs.IdText.{parse_id}
use Rattle.xs_resp.specs.declared.fault.Fault.{Fault}
use Rattle.xs_resp.specs.declared.fault.Fault.TheVariants.{Syntax, BadId, Unsupported}
use Rattle.xs_command.specs.declared.command.ReadFrom.{ReadFrom}
use Rattle.xs_command.specs.declared.command.ReadFrom.TheVariants.{New, After}
use Rattle.xs_command.specs.declared.command.ReadOne.{ReadOne}
use Rattle.xs_command.specs.Words.{Reading, Part, ◌>>=◌, or_fault, word}

-- `>`, or an id; a missing sequence is 0
abbrev pub from_of : List ℕ → Option ReadFrom
from_of text = if bytes_eq text (codes ">") then Some New else option_map After (parse_id text 0)

-- the next word, the start of the read of a stream
unfoldable pub read_from : Part ReadFrom
read_from = do
  w ← word
  or_fault (from_of w) BadId

-- no key is repeated
unfoldable pub is_distinct : List (List ℕ) → Bool
is_distinct [] = true
is_distinct (key ∷ keys) = not (list_any (bytes_eq key) keys) && is_distinct keys

-- a read before those that follow
abbrev pub before : ReadOne → Result (List ReadOne) Fault → Result (List ReadOne) Fault
before first (Ok reads) = Ok (first ∷ reads)
before first (Err fault) = Err fault

-- the read of a key with its start, before those that follow
abbrev pub read_before :
    List ℕ → Result (ReadFrom × List (List ℕ)) Fault → Reading (List ReadOne) → Result (List ReadOne) Fault
read_before key (Err fault) more = Err fault
read_before key (Ok read) more = before (record { key = key; from = read.0 }) (more read.1)

-- each key with its start, in order
unfoldable pub each_from : List (List ℕ) → Reading (List ReadOne)
each_from [] froms = Ok []
each_from (key ∷ keys) froms = read_before key (read_from froms) (each_from keys)

-- distinct keys, and their starts
abbrev pub keys_and_starts : List (List ℕ) → Reading (List ReadOne)
keys_and_starts keys froms = if is_distinct keys then each_from keys froms else Err Unsupported

-- as many keys as starts, one or more; a read of one key twice isn't supported
unfoldable pub streams : Reading (List ReadOne)
streams words =
    if nat_lt 0 (length words) && length words % 2 == 0
    then keys_and_starts (take (length words / 2) words) (drop (length words / 2) words)
    else Err Syntax
