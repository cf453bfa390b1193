-- XRANGE and XREVRANGE.
use Rattle.std.specs.Prelude.{ℕ, Bool, true, false, List, codes, Option, Some, None, Ok, if◌then◌else◌}
use Rattle.xs_stream.specs.declared.id.Id.{Id}
use Rattle.xs_resp.specs.declared.fault.Fault.TheVariants.{Syntax}
use Rattle.xs_command.specs.declared.command.Command.{Command}
use Rattle.xs_command.specs.declared.command.Command.TheVariants as command
use Rattle.xs_command.specs.Integer.{at_least_zero}
use Rattle.xs_command.specs.Words.{Reading, ◌>>=◌, value, is_word, word, integer, low, high}
use Rattle.xs_command.specs.Options.{OptionOf, many, option_with}
use Rattle.xs_command.specs.Syntax.{only}

-- { COUNT n }; a negative number counts as 0, and without COUNT there is no limit
unfoldable pub scan_option : OptionOf (Option ℕ)
scan_option limit name words =
    if is_word (codes "count") name
    then option_with (integer >>= λ count. value (Some (at_least_zero count))) words
    else Ok (limit, None)

-- the command with these parts
abbrev pub scan : List ℕ → Id → Id → Option ℕ → Bool → Command
scan key low high limit reversed =
    command.Scan (record {
      key = key;
      range = record { low = low; high = high };
      limit = limit;
      reversed = reversed;
    })

-- XRANGE key low high { COUNT n }
unfoldable pub xrange : Reading Command
xrange = do
  key ← word
  low ← low
  high ← high
  limit ← many scan_option None
  only (scan key low high limit false) Syntax

-- XREVRANGE key high low { COUNT n }
unfoldable pub xrevrange : Reading Command
xrevrange = do
  key ← word
  high ← high
  low ← low
  limit ← many scan_option None
  only (scan key low high limit true) Syntax
