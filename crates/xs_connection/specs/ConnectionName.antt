-- The names of the commands of a connection.
use Rattle.std.specs.Prelude.{ℕ, List, [], ◌∷◌, codes, find, Option}
use Rattle.std.specs.Option.{option_map}
use Rattle.xs_command.specs.Words.{is_word}
use Rattle.xs_connection.specs.declared.read.ConnectionName.{ConnectionName}
use Rattle.xs_connection.specs.declared.read.ConnectionName.TheVariants.{Hello, Auth, Client, Select, Echo, Command}
use Rattle.xs_connection.specs.declared.read.ConnectionName.TheVariants.{Config, Unwatch, Reset, Multi, Exec, Discard}
use Rattle.xs_connection.specs.declared.read.ConnectionName.TheVariants.{Info}

abbrev pub names : List (List ℕ × ConnectionName)
names =
    (codes "hello", Hello) ∷ (codes "auth", Auth) ∷ (codes "client", Client) ∷ (codes "select", Select)
    ∷ (codes "echo", Echo) ∷ (codes "command", Command) ∷ (codes "config", Config) ∷ (codes "unwatch", Unwatch)
    ∷ (codes "reset", Reset) ∷ (codes "multi", Multi) ∷ (codes "exec", Exec) ∷ (codes "discard", Discard)
    ∷ (codes "info", Info) ∷ []

-- the command that a word names
unfoldable pub name_of : List ℕ → Option ConnectionName
name_of word = option_map (λ entry. entry.1) (find (λ entry. is_word entry.0 word) names)
