-- Each command that words give is well formed.
use Rattle.std.proofs.Common.{◌≡◌, ℕ, ◌+◌, Bool, true, false, cond, List, length, Option, Some, None, Result, Ok, Err}
use Rattle.std.specs.Prelude.{IfOk}
use Rattle.xs_resp.specs.declared.fault.Fault.TheVariants.{Arity}
use Rattle.xs_command.specs.declared.command.Command.{Command}
use Rattle.xs_command.specs.declared.refusal.Refusal.{Refusal}
use Rattle.xs_command.specs.declared.command_name.CommandName.{CommandName}
use Rattle.xs_command.specs.declared.command_name.CommandName.TheVariants.{Ping, Quit, Xadd, Xdel, Xtrim, Xlen, Xrange}
use Rattle.xs_command.specs.declared.command_name.CommandName.TheVariants.{Xrevrange, Xgroup, Xreadgroup, Xack}
use Rattle.xs_command.specs.declared.command_name.CommandName.TheVariants.{Xpending, Xclaim, Xautoclaim, Del, Xinfo, Exists}
use Rattle.xs_command.specs.declared.command_name.CommandName.TheVariants.{KeyType, Dbsize}
use Rattle.xs_command.specs.Words.{Gives, word}
use Rattle.xs_command.specs.WellFormed.{IsWellFormed}
use Rattle.xs_command.specs.CommandName.{name_of, word_counts, is_within_bounds}
use Rattle.xs_command.specs.Read.{syntax, command_by_name, command_of_words}
use Rattle.xs_command.proofs.Formed.{Always, after_any, ping_formed, quit_formed, xadd_formed, xdel_formed}
use Rattle.xs_command.proofs.FormedInspections.{xinfo_formed, exists_formed, key_type_formed, dbsize_formed}
use Rattle.xs_command.proofs.Formed.{xtrim_formed, xlen_formed, xrange_formed, xrevrange_formed, del_formed}
use Rattle.xs_command.proofs.FormedGroups.{xgroup_formed, xack_formed, xpending_formed, xclaim_formed}
use Rattle.xs_command.proofs.FormedGroups.{xautoclaim_formed}
use Rattle.xs_command.proofs.FormedReadGroup.{xreadgroup_formed}

syntax_formed : (name : CommandName) → Always IsWellFormed (syntax name)
syntax_formed Ping words y e = ping_formed words y e
syntax_formed Quit words y e = quit_formed words y e
syntax_formed Xadd words y e = xadd_formed words y e
syntax_formed Xdel words y e = xdel_formed words y e
syntax_formed Xtrim words y e = xtrim_formed words y e
syntax_formed Xlen words y e = xlen_formed words y e
syntax_formed Xrange words y e = xrange_formed words y e
syntax_formed Xrevrange words y e = xrevrange_formed words y e
syntax_formed Xgroup words y e = xgroup_formed words y e
syntax_formed Xreadgroup words y e = xreadgroup_formed words y e
syntax_formed Xack words y e = xack_formed words y e
syntax_formed Xpending words y e = xpending_formed words y e
syntax_formed Xclaim words y e = xclaim_formed words y e
syntax_formed Xautoclaim words y e = xautoclaim_formed words y e
syntax_formed Del words y e = del_formed words y e
syntax_formed Xinfo words y e = xinfo_formed words y e
syntax_formed Exists words y e = exists_formed words y e
syntax_formed KeyType words y e = key_type_formed words y e
syntax_formed Dbsize words y e = dbsize_formed words y e

counted : (name : CommandName) (b : Bool) (words : List (List ℕ)) (y : Command) → cond b (syntax name words) (Err Arity) ≡ Ok y → IsWellFormed y
counted name true words y e = syntax_formed name words y e
counted name false words y e = absurd cc

named_formed : (name : Option CommandName) → Always IsWellFormed (command_by_name name)
named_formed None words y e = absurd cc
named_formed (Some name) words y e = counted name (is_within_bounds (word_counts name) (length words + 1)) words y e

reads_formed : Always IsWellFormed command_of_words
unfolding command_of_words
reads_formed = after_any IsWellFormed word _ (λ first. named_formed (name_of first))

-- so a function that gives what is read gives a command that is well formed
pub given_formed : (words : List (List ℕ)) (result : Result Command Refusal) → Gives result (command_of_words words) → IfOk result IsWellFormed
given_formed words (Ok command) h = reads_formed words command h
given_formed words (Err refusal) h = tt
