-- The names of the commands, and how many words each has.
use Rattle.std.specs.Prelude.{ℕ, ◌&&◌, ◌||◌, ◌==◌, not, Bool, true, List, [], ◌∷◌, codes, nat_le, Option, Some, None}
use Rattle.std.specs.Prelude.{find}
use Rattle.std.specs.Option.{option_map}
use Rattle.xs_command.specs.declared.command_name.CommandName.{CommandName}
use Rattle.xs_command.specs.declared.command_name.CommandName.TheVariants.{Ping, Quit, Xadd, Xdel, Xtrim, Xlen, Xrange}
use Rattle.xs_command.specs.declared.command_name.CommandName.TheVariants.{Xrevrange, Xgroup, Xreadgroup, Xack}
use Rattle.xs_command.specs.declared.command_name.CommandName.TheVariants.{Xpending, Xclaim, Xautoclaim, Del, Xinfo, Exists}
use Rattle.xs_command.specs.declared.command_name.CommandName.TheVariants.{KeyType, Dbsize}
use Rattle.xs_command.specs.Words.{is_word}

-- the names
abbrev pub names : List (List ℕ × CommandName)
names =
    (codes "ping", Ping) ∷ (codes "quit", Quit) ∷ (codes "xadd", Xadd) ∷ (codes "xdel", Xdel) ∷ (codes "xtrim", Xtrim)
    ∷ (codes "xlen", Xlen) ∷ (codes "xrange", Xrange) ∷ (codes "xrevrange", Xrevrange) ∷ (codes "xgroup", Xgroup)
    ∷ (codes "xreadgroup", Xreadgroup) ∷ (codes "xack", Xack) ∷ (codes "xpending", Xpending) ∷ (codes "xclaim", Xclaim)
    ∷ (codes "xautoclaim", Xautoclaim) ∷ (codes "del", Del) ∷ (codes "xinfo", Xinfo)
    ∷ (codes "exists", Exists) ∷ (codes "type", KeyType) ∷ (codes "dbsize", Dbsize) ∷ []

-- the name among these that a word is, in upper or lower case
abbrev pub name_among : List (List ℕ × CommandName) → List ℕ → Option CommandName
name_among table word = option_map (λ entry. entry.1) (find (λ entry. is_word entry.0 word) table)

-- the command that a word names
unfoldable pub name_of : List ℕ → Option CommandName
name_of word = name_among names word

-- a length that few names have; most have 4, 6 or 10 letters
abbrev pub has_rare_length : ℕ → Bool
has_rare_length n = not (n == 4 || n == 6 || n == 10)

-- the number of words of a command, its name included: at least the first number, and at most the second, if there is
-- one
abbrev pub word_counts : CommandName → ℕ × Option ℕ
word_counts Ping = (1, Some 2)
word_counts Quit = (1, None)
word_counts Xadd = (5, None)
word_counts Xdel = (3, None)
word_counts Xtrim = (4, None)
word_counts Xlen = (2, Some 2)
word_counts Xrange = (4, None)
word_counts Xrevrange = (4, None)
word_counts Xgroup = (2, None)
word_counts Xreadgroup = (7, None)
word_counts Xack = (4, None)
word_counts Xpending = (3, None)
word_counts Xclaim = (6, None)
word_counts Xautoclaim = (6, None)
word_counts Del = (2, None)
word_counts Xinfo = (2, None)
word_counts Exists = (2, None)
word_counts KeyType = (2, Some 2)
word_counts Dbsize = (1, Some 1)

-- at most this many
abbrev pub is_at_most : Option ℕ → ℕ → Bool
is_at_most None count = true
is_at_most (Some most) count = nat_le count most

-- the number of words is within the bounds
abbrev pub is_within_bounds : ℕ × Option ℕ → ℕ → Bool
is_within_bounds bounds count = nat_le bounds.0 count && is_at_most bounds.1 count
