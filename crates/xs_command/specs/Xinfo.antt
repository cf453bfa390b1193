-- XINFO. (Redis, XINFO STREAM, XINFO GROUPS, XINFO CONSUMERS.)
use Rattle.std.specs.Prelude.{ℕ, ◌+◌, ◌==◌, List, [], ◌∷◌, length, codes, find, Option, Some, None, Ok, Err}
use Rattle.std.specs.Prelude.{if◌then◌else◌}
use Rattle.std.specs.Option.{option_map}
use Rattle.xs_resp.specs.declared.fault.Fault.TheVariants.{UnknownCommand, Arity, Syntax}
use Rattle.xs_command.specs.declared.command.Command.{Command}
use Rattle.xs_command.specs.declared.command.Command.TheVariants as command
use Rattle.xs_command.specs.declared.command.Inspection.TheVariants as inspection
use Rattle.xs_command.specs.declared.xinfo.Subcommand.{Subcommand}
use Rattle.xs_command.specs.declared.xinfo.Subcommand.TheVariants.{Groups, Stream, Consumers}
use Rattle.xs_command.specs.declared.integer.Integer.{Integer}
use Rattle.xs_command.specs.declared.integer.Integer.TheVariants.{Negative, Natural}
use Rattle.xs_command.specs.Words.{Reading, ◌>>=◌, is_word, word, integer}
use Rattle.xs_command.specs.CommandName.{is_within_bounds}
use Rattle.xs_command.specs.Syntax.{only}

-- XINFO GROUPS key
unfoldable pub groups : Reading Command
groups = do
  key ← word
  only (command.Inspect (inspection.Groups key)) Syntax

-- at most this many of each list: all if it is 0, and ten if it is negative
abbrev pub full_limit : Integer → Option ℕ
full_limit Negative = Some 10
full_limit (Natural n) = if n == 0 then None else Some n

-- after COUNT
unfoldable pub stream_counted : List ℕ → Reading Command
stream_counted key = do
  n ← integer
  only (command.Inspect (inspection.StreamInFull key (full_limit n))) Syntax

-- after FULL: nothing, which means ten of each list, or COUNT n
unfoldable pub stream_in_full : List ℕ → Reading Command
stream_in_full key [] = Ok (command.Inspect (inspection.StreamInFull key (Some 10)))
stream_in_full key (w ∷ words) = if is_word (codes "count") w then stream_counted key words else Err Syntax

-- after the key: nothing, or FULL
unfoldable pub stream_form : List ℕ → Reading Command
stream_form key [] = Ok (command.Inspect (inspection.Stream key))
stream_form key (w ∷ words) = if is_word (codes "full") w then stream_in_full key words else Err Syntax

-- XINFO STREAM key [FULL [COUNT n]]
unfoldable pub stream : Reading Command
stream = do
  key ← word
  stream_form key

-- XINFO CONSUMERS key group
unfoldable pub consumers : Reading Command
consumers = do
  key ← word
  group ← word
  only (command.Inspect (inspection.Consumers key group)) Syntax

-- the subcommands
abbrev pub subcommands : List (List ℕ × Subcommand)
subcommands = (codes "groups", Groups) ∷ (codes "stream", Stream) ∷ (codes "consumers", Consumers) ∷ []

-- the subcommand that a word names
unfoldable pub subcommand_of : List ℕ → Option Subcommand
subcommand_of text = option_map (λ entry. entry.1) (find (λ entry. is_word entry.0 text) subcommands)

-- the number of words of each, XINFO and the subcommand included
abbrev pub subcommand_word_counts : Subcommand → ℕ × Option ℕ
subcommand_word_counts Groups = (3, Some 3)
subcommand_word_counts Stream = (3, None)
subcommand_word_counts Consumers = (4, Some 4)

-- the syntax after each subcommand
abbrev pub info_syntax : Subcommand → Reading Command
info_syntax Groups = groups
info_syntax Stream = stream
info_syntax Consumers = consumers

-- the words after a subcommand; their number is checked first
abbrev pub info_named : Option Subcommand → Reading Command
info_named None words = Err UnknownCommand
info_named (Some sub) words =
    if is_within_bounds (subcommand_word_counts sub) (length words + 2) then info_syntax sub words else Err Arity

-- XINFO subcommand ..
unfoldable pub xinfo : Reading Command
xinfo = do
  sub ← word
  info_named (subcommand_of sub)
