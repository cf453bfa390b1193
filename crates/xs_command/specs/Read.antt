-- The reading of words: a command, or the first fault from left to right.
use Rattle.std.specs.Prelude.{◌+◌, length, Option, Some, None, Err, if◌then◌else◌}
use Rattle.xs_resp.specs.declared.fault.Fault.TheVariants.{UnknownCommand, Arity}
use Rattle.xs_command.specs.declared.command.Command.{Command}
use Rattle.xs_command.specs.declared.command_name.CommandName.{CommandName}
use Rattle.xs_command.specs.declared.command_name.CommandName.TheVariants.{Ping, Quit, Xadd, Xdel, Xtrim, Xlen, Xrange}
use Rattle.xs_command.specs.declared.command_name.CommandName.TheVariants.{Xrevrange, Xgroup, Xreadgroup, Xack}
use Rattle.xs_command.specs.declared.command_name.CommandName.TheVariants.{Xpending, Xclaim, Xautoclaim, Del, Xinfo, Exists}
use Rattle.xs_command.specs.declared.command_name.CommandName.TheVariants.{KeyType, Dbsize}
use Rattle.xs_command.specs.Words.{Reading, ◌>>=◌, word}
use Rattle.xs_command.specs.CommandName.{name_of, word_counts, is_within_bounds}
use Rattle.xs_command.specs.Ping.{ping, quit}
use Rattle.xs_command.specs.Xadd.{xadd}
use Rattle.xs_command.specs.Xdel.{xdel}
use Rattle.xs_command.specs.Xtrim.{xtrim}
use Rattle.xs_command.specs.Xlen.{xlen}
use Rattle.xs_command.specs.Xrange.{xrange, xrevrange}
use Rattle.xs_command.specs.Xgroup.{xgroup}
use Rattle.xs_command.specs.Xreadgroup.{xreadgroup}
use Rattle.xs_command.specs.Xack.{xack}
use Rattle.xs_command.specs.Xpending.{xpending}
use Rattle.xs_command.specs.Xclaim.{xclaim}
use Rattle.xs_command.specs.Xautoclaim.{xautoclaim}
use Rattle.xs_command.specs.Del.{del}
use Rattle.xs_command.specs.Xinfo.{xinfo}
use Rattle.xs_command.specs.Exists.{exists}
use Rattle.xs_command.specs.KeyType.{key_type}
use Rattle.xs_command.specs.Dbsize.{dbsize}

-- the syntax after each name
abbrev pub syntax : CommandName → Reading Command
syntax Ping = ping
syntax Quit = quit
syntax Xadd = xadd
syntax Xdel = xdel
syntax Xtrim = xtrim
syntax Xlen = xlen
syntax Xrange = xrange
syntax Xrevrange = xrevrange
syntax Xgroup = xgroup
syntax Xreadgroup = xreadgroup
syntax Xack = xack
syntax Xpending = xpending
syntax Xclaim = xclaim
syntax Xautoclaim = xautoclaim
syntax Del = del
syntax Xinfo = xinfo
syntax Exists = exists
syntax KeyType = key_type
syntax Dbsize = dbsize

-- the words after a name; their number is checked first
abbrev pub command_by_name : Option CommandName → Reading Command
command_by_name None words = Err UnknownCommand
command_by_name (Some name) words =
    if is_within_bounds (word_counts name) (length words + 1) then syntax name words else Err Arity

-- a name, and the words after it
unfoldable pub command_of_words : Reading Command
command_of_words = do
  first ← word
  command_by_name (name_of first)
