-- The reading of words: a command of the connection itself, or a fault.
use Rattle.std.specs.Prelude.{ℕ, Bool, true, false, List, [], ◌∷◌, Option, Some, None, Ok, Err}
use Rattle.xs_resp.specs.declared.fault.Fault.TheVariants.{UnknownCommand, Arity}
use Rattle.xs_command.specs.Words.{Reading, ◌>>=◌}
use Rattle.xs_connection.specs.declared.command.ConnectionCommand.{ConnectionCommand}
use Rattle.xs_connection.specs.declared.command.ConnectionCommand.TheVariants as command
use Rattle.xs_connection.specs.declared.read.ConnectionName.{ConnectionName}
use Rattle.xs_connection.specs.declared.read.ConnectionName.TheVariants.{Hello, Auth, Client, Select, Echo, Command}
use Rattle.xs_connection.specs.declared.read.ConnectionName.TheVariants.{Config, Unwatch, Reset, Multi, Exec, Discard}
use Rattle.xs_connection.specs.declared.read.ConnectionName.TheVariants.{Info}
use Rattle.xs_connection.specs.ConnectionName.{name_of}
use Rattle.xs_connection.specs.Reading.{operand, ending}
use Rattle.xs_connection.specs.Hello.{hello, auth}
use Rattle.xs_connection.specs.Client.{client}
use Rattle.xs_connection.specs.Others.{select, echo, list_commands, config}

-- the syntax after each name
abbrev pub command_by_name : Option ConnectionName → Reading ConnectionCommand
command_by_name None words = Err UnknownCommand
command_by_name (Some Hello) words = hello words
command_by_name (Some Auth) words = auth words
command_by_name (Some Client) words = client words
command_by_name (Some Select) words = select words
command_by_name (Some Echo) words = echo words
command_by_name (Some Command) words = list_commands words
command_by_name (Some Config) words = config words
command_by_name (Some Unwatch) words = ending Arity command.Accept words
command_by_name (Some Reset) words = ending Arity command.Reset words
command_by_name (Some Multi) words = ending Arity command.Multi words
command_by_name (Some Exec) words = ending Arity command.Exec words
command_by_name (Some Discard) words = ending Arity command.Discard words
command_by_name (Some Info) words = Ok command.Info

-- a name, and what follows it
unfoldable pub connection_command : Reading ConnectionCommand
connection_command = do
  first ← operand
  command_by_name (name_of first)

-- the command that words name first
abbrev pub first_name : List (List ℕ) → Option ConnectionName
first_name [] = None
first_name (w ∷ words) = name_of w

-- what may be sent before a password is given
abbrev pub is_greeting : Option ConnectionName → Bool
is_greeting (Some Hello) = true
is_greeting (Some Auth) = true
is_greeting (Some Reset) = true
is_greeting _ = false
