-- XGROUP.
use Rattle.std.specs.Prelude.{ℕ, ◌+◌, true, false, List, [], ◌∷◌, length, codes, bytes_eq, find, Option, Some, None, Ok}
use Rattle.std.specs.Prelude.{Err, if◌then◌else◌}
use Rattle.std.specs.Option.{option_map}
use Rattle.xs_stream.specs.IdText.{parse_id}
use Rattle.xs_resp.specs.declared.fault.Fault.TheVariants.{UnknownCommand, Arity, Syntax, BadId, Unsupported}
use Rattle.xs_command.specs.declared.command.Command.{Command}
use Rattle.xs_command.specs.declared.command.Command.TheVariants as command
use Rattle.xs_command.specs.declared.command.GroupStart.{GroupStart}
use Rattle.xs_command.specs.declared.command.GroupStart.TheVariants.{Top, At}
use Rattle.xs_command.specs.declared.xgroup.Subcommand.{Subcommand}
use Rattle.xs_command.specs.declared.xgroup.Subcommand.TheVariants.{Create, Destroy, CreateConsumer, DelConsumer, SetId}
use Rattle.xs_command.specs.declared.xgroup.CreateOptions.{CreateOptions}
use Rattle.xs_command.specs.Words.{Reading, Part, ◌>>=◌, or_fault, is_word, word}
use Rattle.xs_command.specs.Options.{OptionOf, many}
use Rattle.xs_command.specs.CommandName.{is_within_bounds}
use Rattle.xs_command.specs.Syntax.{only}

-- the id after which a new group starts to read; `$` is the top of the stream, and a missing sequence is 0
abbrev pub start_in_word : List ℕ → Option GroupStart
start_in_word text = if bytes_eq text (codes "$") then Some Top else option_map At (parse_id text 0)

-- the next word, a group's start
unfoldable pub group_start : Part GroupStart
group_start = do
  w ← word
  or_fault (start_in_word w) BadId

-- { MKSTREAM }; ENTRIESREAD isn't supported
unfoldable pub create_option : OptionOf CreateOptions
create_option options name words =
    if is_word (codes "mkstream") name then Ok (record { make = true }, Some words)
    else (if is_word (codes "entriesread") name then Err Unsupported else Ok (options, None))

-- XGROUP CREATE key group start { MKSTREAM }
unfoldable pub create : Reading Command
create = do
  key ← word
  group ← word
  start ← group_start
  options ← many create_option (record { make = false })
  only (command.GroupCreate (record { key = key; group = group; start = start; make = options.make })) Syntax

-- XGROUP DESTROY key group
unfoldable pub destroy : Reading Command
destroy = do
  key ← word
  group ← word
  only (command.GroupDestroy key group) Syntax

-- XGROUP CREATECONSUMER key group consumer
unfoldable pub create_consumer : Reading Command
create_consumer = do
  key ← word
  group ← word
  consumer ← word
  only (command.ConsumerCreate key group consumer) Syntax

-- XGROUP DELCONSUMER key group consumer
unfoldable pub delete_consumer : Reading Command
delete_consumer = do
  key ← word
  group ← word
  consumer ← word
  only (command.ConsumerDelete key group consumer) Syntax

-- the subcommands
abbrev pub subcommands : List (List ℕ × Subcommand)
subcommands =
    (codes "create", Create) ∷ (codes "destroy", Destroy) ∷ (codes "createconsumer", CreateConsumer)
    ∷ (codes "delconsumer", DelConsumer) ∷ (codes "setid", SetId) ∷ []

-- the subcommand that a word names
unfoldable pub subcommand_of : List ℕ → Option Subcommand
subcommand_of text = option_map (λ entry. entry.1) (find (λ entry. is_word entry.0 text) subcommands)

-- the number of words of each, XGROUP and the subcommand included
abbrev pub subcommand_word_counts : Subcommand → ℕ × Option ℕ
subcommand_word_counts Create = (5, None)
subcommand_word_counts Destroy = (4, Some 4)
subcommand_word_counts CreateConsumer = (5, Some 5)
subcommand_word_counts DelConsumer = (5, Some 5)
subcommand_word_counts SetId = (2, None)

-- the syntax after each subcommand; SETID isn't supported
abbrev pub group_syntax : Subcommand → Reading Command
group_syntax Create = create
group_syntax Destroy = destroy
group_syntax CreateConsumer = create_consumer
group_syntax DelConsumer = delete_consumer
group_syntax SetId = λ words. Err Unsupported

-- the words after a subcommand; their number is checked first
abbrev pub group_named : Option Subcommand → Reading Command
group_named None words = Err UnknownCommand
group_named (Some sub) words =
    if is_within_bounds (subcommand_word_counts sub) (length words + 2) then group_syntax sub words else Err Arity

-- XGROUP subcommand ..
unfoldable pub xgroup : Reading Command
xgroup = do
  sub ← word
  group_named (subcommand_of sub)
