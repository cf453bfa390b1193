-- HELLO and AUTH. (Redis, their pages.)
use Rattle.std.specs.Prelude.{ℕ, Bool, ◌==◌, false, List, [], ◌∷◌, codes, Option, Some, None, Ok, Err, if◌then◌else◌}
use Rattle.xs_resp.specs.declared.fault.Fault.TheVariants.{NotInteger, Syntax}
use Rattle.xs_command.specs.declared.integer.Integer.{Integer}
use Rattle.xs_command.specs.declared.integer.Integer.TheVariants.{Negative, Natural}
use Rattle.xs_command.specs.Integer.{integer_of}
use Rattle.xs_command.specs.Words.{Reading, ◌>>=◌, value, is_word}
use Rattle.xs_command.specs.Options.{OptionOf, many, option_with}
use Rattle.xs_connection.specs.declared.command.ConnectionCommand.{ConnectionCommand}
use Rattle.xs_connection.specs.declared.command.ConnectionCommand.TheVariants.{Hello, OtherProtocol, Auth, BadName}
use Rattle.xs_connection.specs.declared.command.HelloCommand.{HelloCommand}
use Rattle.xs_connection.specs.Reading.{operand, ending}
use Rattle.xs_connection.specs.Client.{is_name}

abbrev pub no_options : HelloCommand
no_options = record { login = None; name = None }

-- { AUTH user password | SETNAME name }
unfoldable pub hello_option : OptionOf HelloCommand
hello_option options name words =
    if is_word (codes "auth") name
    then option_with (operand >>= λ user. operand >>= λ password.
    value (record options { login = Some (record { user = Some user; password = password }) })) words
    else (if is_word (codes "setname") name
    then option_with (operand >>= λ given. value (record options { name = Some given })) words
    else Ok (options, None))

-- the name that is asked for, if there is one, has to be a valid name
abbrev pub has_good_name : Option (List ℕ) → ConnectionCommand → ConnectionCommand
has_good_name None command = command
has_good_name (Some name) command = if is_name name then command else BadName

-- RESP2
abbrev pub is_two : Integer → Bool
is_two Negative = false
is_two (Natural n) = n == 2

-- after the number of a protocol
abbrev pub hello_behind : Option Integer → Reading ConnectionCommand
hello_behind None words = Err NotInteger
hello_behind (Some number) words =
    if is_two number
    then (many hello_option no_options >>= λ options. ending Syntax (has_good_name options.name (Hello options))) words
    else Ok OtherProtocol

-- HELLO [protocol { AUTH user password | SETNAME name }]
unfoldable pub hello : Reading ConnectionCommand
hello [] = Ok (Hello no_options)
hello (w ∷ words) = hello_behind (integer_of w) words

-- after the first word: it is a user if one more follows
abbrev pub auth_behind : List ℕ → Reading ConnectionCommand
auth_behind first [] = Ok (Auth (record { user = None; password = first }))
auth_behind first (w ∷ words) = ending Syntax (Auth (record { user = Some first; password = w })) words

-- AUTH [user] password
unfoldable pub auth : Reading ConnectionCommand
auth = do
  first ← operand
  auth_behind first
