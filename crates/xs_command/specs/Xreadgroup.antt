-- XREADGROUP.
use Rattle.std.specs.Prelude.{ℕ, ◌==◌, true, false, List, codes, Option, Some, None, Result, Ok, Err, if◌then◌else◌}
use Rattle.xs_resp.specs.declared.fault.Fault.{Fault}
use Rattle.xs_resp.specs.declared.fault.Fault.TheVariants.{Syntax}
use Rattle.xs_command.specs.declared.command.Command.{Command}
use Rattle.xs_command.specs.declared.command.Command.TheVariants as command
use Rattle.xs_command.specs.declared.integer.Integer.{Integer}
use Rattle.xs_command.specs.declared.integer.Integer.TheVariants.{Negative, Natural}
use Rattle.xs_command.specs.declared.command.ReadOne.{ReadOne}
use Rattle.xs_command.specs.declared.xreadgroup.Reader.{Reader}
use Rattle.xs_command.specs.declared.xreadgroup.ReadOptions.{ReadOptions}
use Rattle.xs_command.specs.Words.{Reading, Part, ◌>>=◌, value, is_word, word, integer, natural}
use Rattle.xs_command.specs.Options.{OptionOf, many, option_with}
use Rattle.xs_command.specs.Streams.{streams}

-- 0 or a negative number sets no limit
abbrev pub limit_of : Integer → Option ℕ
limit_of Negative = None
limit_of (Natural n) = if n == 0 then None else Some n

abbrev pub no_read_options : ReadOptions
no_read_options = record { reader = None; limit = None; block = None; noack = false }

-- GROUP group consumer
unfoldable pub reader : Part Reader
reader = do
  group ← word
  consumer ← word
  value (record { group = group; consumer = consumer })

abbrev pub with_reader : ReadOptions → Reader → ReadOptions
with_reader options who =
    record { reader = Some who; limit = options.limit; block = options.block; noack = options.noack }

abbrev pub with_limit : ReadOptions → Option ℕ → ReadOptions
with_limit options limit =
    record { reader = options.reader; limit = limit; block = options.block; noack = options.noack }

abbrev pub with_block : ReadOptions → ℕ → ReadOptions
with_block options millis =
    record { reader = options.reader; limit = options.limit; block = Some millis; noack = options.noack }

abbrev pub with_noack : ReadOptions → ReadOptions
with_noack options = record { reader = options.reader; limit = options.limit; block = options.block; noack = true }

-- { GROUP group consumer, COUNT n, BLOCK ms, NOACK }
unfoldable pub read_option : OptionOf ReadOptions
read_option options name words =
    if is_word (codes "group") name then option_with (reader >>= λ who. value (with_reader options who)) words
    else (if is_word (codes "count") name
    then option_with (integer >>= λ n. value (with_limit options (limit_of n))) words
    else (if is_word (codes "block") name then option_with (natural >>= λ millis. value (with_block options millis)) words
    else (if is_word (codes "noack") name then Ok (with_noack options, Some words) else Ok (options, None))))

-- the command with these streams
abbrev pub read_group : Reader → ReadOptions → Result (List ReadOne) Fault → Result Command Fault
read_group who options (Ok reads) =
    Ok (command.ReadGroup (record {
      group = who.group;
      consumer = who.consumer;
      limit = options.limit;
      block = options.block;
      noack = options.noack;
      reads = reads;
    }))
read_group who options (Err fault) = Err fault

-- after STREAMS; a group has to be named before
abbrev pub behind_streams : ReadOptions → Option Reader → Reading Command
behind_streams options None words = Err Syntax
behind_streams options (Some who) words = read_group who options (streams words)

-- STREAMS key [key ..] from [from ..]
abbrev pub streams_of : ReadOptions → List ℕ → Reading Command
streams_of options name words =
    if is_word (codes "streams") name then behind_streams options options.reader words else Err Syntax

-- XREADGROUP { GROUP group consumer, COUNT n, BLOCK ms, NOACK } STREAMS key [key ..] from [from ..]
unfoldable pub xreadgroup : Reading Command
xreadgroup = do
  options ← many read_option no_read_options
  name ← word
  streams_of options name
