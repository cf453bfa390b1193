-- What examples compute: how words are read as a command of a connection.
use Rattle.std.specs.Fmt.{digits}
use Rattle.xs_command.specs.Words.{is_word}
use Rattle.xs_command.specs.Options.{up_to}
use Rattle.xs_connection.specs.Reading.{operand, number, ending}
use Rattle.xs_connection.specs.Hello.{hello, hello_option, auth}
use Rattle.xs_connection.specs.Client.{client, set_name, set_info, subcommand_of}
use Rattle.xs_connection.specs.Others.{select, echo, list_commands, config, config_behind}
use Rattle.xs_connection.specs.ConnectionName.{name_of}
use Rattle.xs_connection.specs.Read.{connection_command}
use Rattle.xs_connection.specs.Unknown.{arguments}

-- the definitions that examples compute
unfoldable pub example_functions : Type 0
unfolding digits is_word up_to operand number ending hello hello_option auth client set_name set_info subcommand_of select echo list_commands config config_behind name_of connection_command arguments
example_functions = Unit {0}
