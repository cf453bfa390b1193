-- XADD.
use Rattle.std.specs.Prelude.{ℕ, true, false, List, codes, Option, Some, None, Result, Ok, Err, if◌then◌else◌}
use Rattle.xs_stream.specs.declared.trim.Trim.{Trim}
use Rattle.xs_stream.specs.declared.add.AddId.{AddId}
use Rattle.xs_stream.specs.declared.field.Field.{Field}
use Rattle.xs_resp.specs.declared.fault.Fault.{Fault}
use Rattle.xs_command.specs.declared.command.Command.{Command}
use Rattle.xs_command.specs.declared.command.Command.TheVariants as command
use Rattle.xs_command.specs.declared.xadd.AddOptions.{AddOptions}
use Rattle.xs_command.specs.Words.{Reading, ◌>>=◌, word, is_word}
use Rattle.xs_command.specs.Options.{OptionOf, many}
use Rattle.xs_command.specs.Trim.{trim_option}
use Rattle.xs_command.specs.AddId.{add_id}
use Rattle.xs_command.specs.Fields.{fields}

-- a missing key is created, and nothing is trimmed
abbrev pub no_add_options : AddOptions
no_add_options = record { make = true; trim = None }

-- the options after a trim was read
abbrev pub with_trim :
    AddOptions → Result (Option Trim × Option (List (List ℕ))) Fault
    → Result (AddOptions × Option (List (List ℕ))) Fault
with_trim options (Ok read) = Ok (record { make = options.make; trim = read.0 }, read.1)
with_trim options (Err fault) = Err fault

-- { NOMKSTREAM, trim }
unfoldable pub add_option : OptionOf AddOptions
add_option options name words =
    if is_word (codes "nomkstream") name then Ok (record { make = false; trim = options.trim }, Some words)
    else with_trim options (trim_option options.trim name words)

-- the command with these fields
abbrev pub addition : List ℕ → AddOptions → AddId → Result (List Field) Fault → Result Command Fault
addition key options id (Ok fields) =
    Ok (command.Add (record { key = key; make = options.make; trim = options.trim; id = id; fields = fields }))
addition key options id (Err fault) = Err fault

-- XADD key { NOMKSTREAM, trim } id field value [field value ..]
unfoldable pub xadd : Reading Command
xadd = do
  key ← word
  options ← many add_option no_add_options
  id ← add_id
  λ words. addition key options id (fields words)
