-- CLIENT. (Redis, CLIENT SETNAME, CLIENT GETNAME, CLIENT ID, CLIENT LIST and CLIENT SETINFO.)
use Rattle.std.specs.Prelude.{ℕ, Bool, ◌||◌, List, [], ◌∷◌, codes, find, Option, Some, None, Err, if◌then◌else◌}
use Rattle.std.specs.Char.{is_ascii_graphic}
use Rattle.std.specs.List.{list_all}
use Rattle.std.specs.Option.{option_map}
use Rattle.xs_resp.specs.declared.fault.Fault.TheVariants.{UnknownCommand, Arity, Syntax}
use Rattle.xs_command.specs.Words.{Reading, ◌>>=◌, is_word}
use Rattle.xs_connection.specs.declared.command.ConnectionCommand.{ConnectionCommand}
use Rattle.xs_connection.specs.declared.command.ConnectionCommand.TheVariants.{SetName, BadName, GetName, GetId, List as ListClients}
use Rattle.xs_connection.specs.declared.command.ConnectionCommand.TheVariants.{Accept}
use Rattle.xs_connection.specs.declared.read_client.Subcommand.{Subcommand}
use Rattle.xs_connection.specs.declared.read_client.Subcommand.TheVariants as sub
use Rattle.xs_connection.specs.Reading.{operand, ending}

-- a name has no space and no control character; an empty name removes the name
abbrev pub is_name : List ℕ → Bool
is_name name = list_all is_ascii_graphic name

-- CLIENT SETNAME name
unfoldable pub set_name : Reading ConnectionCommand
set_name = do
  name ← operand
  ending Arity (if is_name name then SetName name else BadName)

-- the word names a property that a library reports about itself
abbrev pub is_library_word : List ℕ → Bool
is_library_word word = is_word (codes "lib-name") word || is_word (codes "lib-ver") word

-- CLIENT SETINFO lib-name|lib-ver text
unfoldable pub set_info : Reading ConnectionCommand
set_info = do
  what ← operand
  text ← operand
  if is_library_word what then ending Arity Accept else (λ words. Err Syntax)

-- the subcommands
abbrev pub subcommands : List (List ℕ × Subcommand)
subcommands =
    (codes "setname", sub.SetName) ∷ (codes "getname", sub.GetName) ∷ (codes "id", sub.Id) ∷ (codes "list", sub.List)
    ∷ (codes "setinfo", sub.SetInfo) ∷ []

-- the subcommand that a word names
unfoldable pub subcommand_of : List ℕ → Option Subcommand
subcommand_of text = option_map (λ entry. entry.1) (find (λ entry. is_word entry.0 text) subcommands)

-- the syntax after each
abbrev pub client_named : Option Subcommand → Reading ConnectionCommand
client_named None words = Err UnknownCommand
client_named (Some sub.SetName) words = set_name words
client_named (Some sub.GetName) words = ending Arity GetName words
client_named (Some sub.Id) words = ending Arity GetId words
client_named (Some sub.List) words = ending Syntax ListClients words
client_named (Some sub.SetInfo) words = set_info words

-- CLIENT subcommand ..
unfoldable pub client : Reading ConnectionCommand
client = do
  text ← operand
  client_named (subcommand_of text)
