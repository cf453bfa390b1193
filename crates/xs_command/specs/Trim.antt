-- The options MAXLEN and MINID of XADD and XTRIM.
use Rattle.std.specs.Prelude.{ℕ, List, codes, Option, Some, None, Result, Ok, Err, if◌then◌else◌}
use Rattle.xs_stream.specs.declared.trim.Trim.{Trim}
use Rattle.xs_stream.specs.declared.trim.Trim.TheVariants as trim
use Rattle.xs_resp.specs.declared.fault.Fault.{Fault}
use Rattle.xs_resp.specs.declared.fault.Fault.TheVariants.{Syntax, Unsupported}
use Rattle.xs_command.specs.Words.{Part, ◌>>=◌, value, is_word, natural, id_of_word, behind_sign}
use Rattle.xs_command.specs.Options.{OptionOf}

-- after MAXLEN: [=|~] count
unfoldable pub max_len : Part Trim
max_len words = (natural >>= λ count. value (trim.MaxLen count)) (behind_sign words)

-- after MINID: [=|~] id
unfoldable pub min_id : Part Trim
min_id words = (id_of_word >>= λ low. value (trim.MinId low)) (behind_sign words)

-- a trim that was read, if there is none before it
abbrev pub first_trim :
    Option Trim → Result (Trim × List (List ℕ)) Fault → Result (Option Trim × Option (List (List ℕ))) Fault
first_trim (Some earlier) read = Err Syntax
first_trim None (Ok read) = Ok (Some read.0, Some read.1)
first_trim None (Err fault) = Err fault

-- { MAXLEN [=|~] count, MINID [=|~] id }, at most one; LIMIT isn't supported
unfoldable pub trim_option : OptionOf (Option Trim)
trim_option earlier name words =
    if is_word (codes "maxlen") name then first_trim earlier (max_len words)
    else (if is_word (codes "minid") name then first_trim earlier (min_id words)
    else (if is_word (codes "limit") name then Err Unsupported else Ok (earlier, None)))
